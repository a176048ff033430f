use Rattle.std.proofs.Common.{◌≡◌, map, take}
use Rattle.nextest_filtering.specs.ContextViews.{listed_as}
use Rattle.nextest_filtering.proofs.parse_context.features_on.Given as goal

abbrev pub invariant-loop-feature : goal.invariant-loop-feature
invariant-loop-feature l = l.features.items ≡ map listed_as (take l.feature-index l.on)
