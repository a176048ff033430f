use Rattle.std.proofs.Common.{◌≡◌, ◌++◌, map, string_bytes}
use Rattle.list_facts.specs.Texts.{pair_of}
use Rattle.test_select_tests.proofs.asking.push_tests.Given as goal

abbrev pub invariant-loop-name : goal.invariant-loop-name
invariant-loop-name l = map pair_of l.chosen.items ≡ map pair_of l.fn.chosen.items ++ map (λ name. (l.id, string_bytes name)) l.yielded
