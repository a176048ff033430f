use Rattle.std.proofs.Common.{map}
use Rattle.list_facts.specs.Texts.{pair_of}
use Rattle.test_select_tests.specs.Grouping.{IsByBinary, group_of}
use Rattle.test_select_tests.proofs.grouping.by_binary.Given as goal

abbrev pub invariant-loop-id : goal.invariant-loop-id
invariant-loop-id l = IsByBinary (map pair_of l.yielded) (map group_of l.groups.items)
