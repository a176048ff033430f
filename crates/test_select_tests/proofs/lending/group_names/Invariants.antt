use Rattle.std.proofs.Common.{◌≡◌, map, take}
use Rattle.test_select_checks.specs.CompiledViews.{group_view}
use Rattle.test_select_tests.proofs.lending.group_names.Given as goal

abbrev pub invariant-loop-group : goal.invariant-loop-group
invariant-loop-group l = map (λ t. t.now) l.names.items ≡ map (λ g. (group_view g).0) (take l.group-index l.groups)
