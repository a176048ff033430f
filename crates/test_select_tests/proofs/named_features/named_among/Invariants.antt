use Rattle.std.proofs.Common.{◌≡◌, flat_map, map, take}
use Rattle.nextest_filtering.specs.ContextViews.{listed_as}
use Rattle.test_select_tests.specs.NamedFeatures.{named_pair}
use Rattle.test_select_tests.proofs.named_features.named_among.Given as goal

abbrev pub invariant-loop-feature : goal.invariant-loop-feature
invariant-loop-feature l = map listed_as l.named.items ≡ flat_map named_pair (take l.feature-index l.features)
