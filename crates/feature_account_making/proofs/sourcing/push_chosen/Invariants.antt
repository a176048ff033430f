use Rattle.std.proofs.Common.{◌≡◌, ◌++◌, map}
use Rattle.feature_account_rules.specs.RuleList.{given}
use Rattle.feature_account_making.specs.SourceViews.{sourced_view}
use Rattle.feature_account_making.specs.Sources.{Chosen, from_source}
use Rattle.feature_account_making.proofs.sourcing.push_chosen.Given as goal

abbrev pub invariant-loop-feature : goal.invariant-loop-feature
invariant-loop-feature l = map sourced_view l.sourced.items ≡ map sourced_view l.fn.sourced.items ++ from_source Chosen (map given l.yielded)
