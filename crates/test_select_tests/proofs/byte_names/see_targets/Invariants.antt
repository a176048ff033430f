use Rattle.std.proofs.Common.{All, take}
use Rattle.nextest_filtering.specs.SameFilters.{AreBytes}
use Rattle.test_select_tests.proofs.byte_names.see_targets.Given as goal

abbrev pub invariant-loop-target : goal.invariant-loop-target
invariant-loop-target l = All (λ t. AreBytes t.name) (take l.target-index l.targets)
