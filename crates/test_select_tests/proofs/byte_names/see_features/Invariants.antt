use Rattle.std.proofs.Common.{All, take}
use Rattle.nextest_filtering.specs.SameFilters.{AreBytes}
use Rattle.test_select_tests.proofs.byte_names.see_features.Given as goal

abbrev pub invariant-loop-feature : goal.invariant-loop-feature
invariant-loop-feature l = All (λ f. AreBytes f.name) (take l.feature-index l.features)
