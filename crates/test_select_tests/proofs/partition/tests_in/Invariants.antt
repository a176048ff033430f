use Rattle.std.proofs.Common.{◌≡◌, filter, map}
use Rattle.test_select_tests.specs.Partitions.{is_in_part}
use Rattle.test_select_tests.proofs.partition.tests_in.Given as goal

abbrev pub invariant-loop-place : goal.invariant-loop-place
invariant-loop-place l =
    l.chosen.items ≡ map (λ e. e.1) (filter (λ e. is_in_part l.partition.part l.partition.parts e.0) l.yielded)
