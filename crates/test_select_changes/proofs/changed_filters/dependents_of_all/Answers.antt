use Rattle.std.proofs.Common.{◌≡◌, ◌∙◌, refl, sym, ap, ap₂, List, [], ◌∷◌, ◌++◌, String, string_bytes}
use Rattle.std.specs.Global.{Global}
use Rattle.std.proofs.lemmas.List.{map-append}
use Rattle.list_facts.specs.Texts.{texts}
use Rattle.workspace_record.specs.Records.{Text}
use Rattle.nextest_filter_laws.specs.Laws.{bare}
use Rattle.nextest_filter_syntax.specs.Trees.{Tree, union_of}
use Rattle.nextest_filter_tokens.specs.declared.operator_signs.OrOperator.TheVariants.{Pipe}
use Rattle.test_select_changes.specs.ChangedFilters.{dependents_of, or_dependents}
use Rattle.test_select_changes.proofs.changed_filters.dependents_of_all.Goals as goal

-- one name more at the end
or_dependents_more : (tree : Tree (Unit {0})) (names : List Text) (name : Text) → or_dependents tree (names ++ name ∷ []) ≡ union_of Pipe (or_dependents tree names) (dependents_of name)
or_dependents_more tree [] name = refl
or_dependents_more tree (own ∷ names) name = or_dependents_more (union_of Pipe tree (dependents_of own)) names name

or_texts_more : (tree : Tree (Unit {0})) (names : List (String Global)) (name : String Global) → or_dependents tree (texts (names ++ name ∷ [])) ≡ union_of Pipe (or_dependents tree (texts names)) (dependents_of (string_bytes name))
or_texts_more tree names name =
    ap (or_dependents tree) (map-append string_bytes names (name ∷ [])) ∙ or_dependents_more tree (texts names) (string_bytes name)

pub loop-name-preserved : goal.loop-name-preserved
loop-name-preserved c =
    ap bare c.in_ok-filter.ensures ∙ ap₂ (union_of Pipe) c.loop-name.invariant c.dependents_of.ensures ∙ sym (or_texts_more _ c.loop-name.yielded c.in-Some-name.name)
