use Rattle.std.proofs.Common.{length, ◌==◌, sym, ◌∙◌, rules, tests}
use Rattle.std.proofs.lemmas.Iterator.{YieldsList-from_slice}
use Rattle.std.proofs.lemmas.Iterator.Search.{any_from_yields_List}
use Rattle.test_select_changes.specs.Folders.{NamedFolder}
use Rattle.test_select_changes.proofs.AroundFacts.{stands_by}
use Rattle.test_select_changes.proofs.around.stand_for_all.Goals as goal

pub returns-else-is_empty : goal.returns-else-is_empty
returns-else-is_empty c =
    stands_by c.args.folders.now c.any.result (sym c.is_empty.ensures ∙ c.if-is_empty.false) (any_from_yields_List (λ (f : NamedFolder). length f.name == 0) _ _ _ c.any.ensures.ran (YieldsList-from_slice c.args.folders.now cc) (λ x b q k. search (rules, tests)))
