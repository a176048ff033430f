use Rattle.std.proofs.Common.{◌++◌, ◌∷◌, [], cond, true, false, sym, ap, ◌∙◌}
use Rattle.workspace_record.specs.Features.{feature_eq}
use Rattle.feature_account_making.specs.Waiting.{waiting_at}
use Rattle.feature_account_making.proofs.WaitingFacts.{both_added, one_added, on_ok_more, flipped}
use Rattle.feature_account_making.proofs.waiting.add_premises.Goals as goal
use Rattle.feature_account_making.proofs.waiting.add_premises.Goals.{then-ne+in_ok-add_number-in-Two, else-ne}

pub returns-after-ne : goal.returns-after-ne
returns-after-ne c =
    let n = c.args.number in
    let a = c.in-Two.a in
    let b = c.in-Two.b in
    let m0 = c.args.waiting.now in
    rw c.in-Two.is (elim c.if-ne.branch [ then-ne+in_ok-add_number-in-Two w ↦ on_ok_more c.add_number-in-Two.result (λ added f. added f ∙ ap (λ m. waiting_at m f ++ cond (feature_eq f b) (n ∷ []) []) w.waiting-is ∙ ap (λ xs. xs ++ cond (feature_eq f b) (n ∷ []) []) (w.in_ok-add_number-in-Two.ensures f) ∙ both_added (waiting_at m0 f) n a b f (flipped _ true (sym c.ne.ensures ∙ w.if-ne.true))) c.add_number-in-Two.ensures | else-ne w ↦ on_ok_more c.add_number-in-Two.result (λ added f. added f ∙ ap (λ m. waiting_at m f ++ cond (feature_eq f b) (n ∷ []) []) w.waiting-is ∙ one_added (waiting_at m0 f) n a b f (flipped _ false (sym c.ne.ensures ∙ w.if-ne.false))) c.add_number-in-Two.ensures ])
