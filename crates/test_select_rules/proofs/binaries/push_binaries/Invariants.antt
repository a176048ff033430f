use Rattle.std.proofs.Common.{◌≡◌, ◌++◌, ◌&&◌, map, filter, take}
use Rattle.test_select_rules.specs.Binaries.{binary_of, may_have_tests}
use Rattle.test_select_rules.specs.BinaryView.{binary_view}
use Rattle.test_select_rules.proofs.binaries.push_binaries.Given as goal

abbrev pub invariant-loop-target : goal.invariant-loop-target
invariant-loop-target l = map binary_view l.all.items ≡ map binary_view l.fn.all.items ++ map (binary_of l.row) (filter (λ t. t.tested && may_have_tests t.kind) (take l.target-index l.row.targets))
