use Rattle.std.proofs.Common.{◌≡◌, map, take}
use Rattle.nextest_filter_evaluation.specs.Compiled.{compiled_of}
use Rattle.test_select_checks.specs.CompiledViews.{group_view}
use Rattle.test_select_tests.proofs.lending.group_filters.Given as goal

abbrev pub invariant-loop-group : goal.invariant-loop-group
invariant-loop-group l = map (λ f. compiled_of f.now) l.filters.items ≡ map (λ g. (group_view g).1) (take l.group-index l.groups)
