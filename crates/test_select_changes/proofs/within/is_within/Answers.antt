use Rattle.std.proofs.Common.{◌∙◌, sym, lit<, rules, tests}
use Rattle.std.proofs.lemmas.Iterator.Search.{any_from_yields_List}
use Rattle.std.proofs.lemmas.Iterator.Splits.{YieldsList-from_str_split}
use Rattle.test_select_changes.proofs.PartFacts.{steps_up, within_by}
use Rattle.test_select_changes.proofs.within.is_within.Goals as goal

pub returns-then-is_relative : goal.returns-then-is_relative
returns-then-is_relative c =
    within_by c.args.path.now c.any.result (sym c.is_relative.ensures ∙ c.if-is_relative.true) (any_from_yields_List steps_up _ _ _ c.any.ensures.ran (YieldsList-from_str_split 47 c.args.path.now (lit< tt) c.split.ensures.text c.split.ensures.has_more c.split.ensures.pattern) (λ x b q k. search (rules, tests)))
