-- How a run grows as links are met.
use Rattle.std.proofs.Common.{◌≡◌, List, [], ◌∷◌, ◌++◌, sym, ap, ◌∙◌, append_assoc, append-nil, Some}
use Rattle.numbered_offers.specs.declared.state.Asked.{Asked}
use Rattle.numbered_offers.specs.Dues.{asked_of}
use Rattle.numbered_offers.specs.Keeping.{run_of}

pub run_push : (xs : List Asked) (a : Asked) → run_of (xs ++ a ∷ []) ≡ run_of xs ++ asked_of (Some a.due) a.first a.second
run_push [] a = append-nil (asked_of (Some a.due) a.first a.second)
run_push (x ∷ xs) a = ap (λ run. asked_of (Some x.due) x.first x.second ++ run) (run_push xs a) ∙ sym (append_assoc (asked_of (Some x.due) x.first x.second) (run_of xs) (asked_of (Some a.due) a.first a.second))
