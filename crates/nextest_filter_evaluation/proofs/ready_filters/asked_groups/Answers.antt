use Rattle.std.proofs.Common.{◌∙◌, inl, inr, refl, sym}
use Rattle.nextest_filter_evaluation.proofs.ready_filters.asked_groups.Goals as goal

pub returns-then-name_groups : goal.returns-then-name_groups
returns-then-name_groups c = inl refl

pub returns : goal.returns
returns c = inr (c.new.ensures.items, sym c.name_groups.ensures ∙ c.if-name_groups.false)
