-- The specs of a table's answers.
use Rattle.std.proofs.Common.{◌≡◌, refl, ap, List, [], ◌∷◌, ◌++◌, map, Bool, String, Global, string_bytes, append-nil}
use Rattle.std.specs.List.Sorted.{IsStrictlySortedBy}
use Rattle.list_facts.specs.Ascending.{text_cmp}
use Rattle.workspace_record.specs.Tables.{entry_of}
use Rattle.record_files.specs.Tables.{IsAscending}
use Rattle.record_files.proofs.Keys.{key_texts}

specs_are_keys : (es : List (String Global × Bool)) → map (λ e. e.0) (map entry_of es) ≡ key_texts es
specs_are_keys [] = refl
specs_are_keys (e ∷ es) = ap (λ ts. string_bytes e.0 ∷ ts) (specs_are_keys es)

-- no answers ascend
pub none_ascend : IsAscending []
unfolding IsStrictlySortedBy
none_ascend = tt

-- keys that ascend, with none left behind them
pub specs_ascend : (es : List (String Global × Bool)) → IsStrictlySortedBy text_cmp (key_texts es ++ []) → IsAscending (map entry_of es)
specs_ascend es sorted =
    let all : IsStrictlySortedBy text_cmp (key_texts es) = rw (append-nil (key_texts es)) at sorted in
    rw (specs_are_keys es) all
