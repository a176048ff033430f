use Rattle.std.proofs.Common.{All, take}
use Rattle.nextest_filtering.specs.SameFilters.{AreBytes}
use Rattle.test_select_tests.proofs.byte_names.see_groups.Given as goal

abbrev pub invariant-loop-group : goal.invariant-loop-group
invariant-loop-group l = All (λ g. AreBytes g.name) (take l.group-index l.groups)
