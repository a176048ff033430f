use Rattle.std.proofs.Common.{map, take}
use Rattle.test_select_checks.specs.Alike.{AreAlike}
use Rattle.test_select_checks.specs.CompiledViews.{group_view}
use Rattle.test_select_checks.specs.RecordFilters.{IsCompiledGroup}
use Rattle.test_select_checks.proofs.compiled_filters.group_filters.Given as goal

abbrev pub invariant-loop-place : goal.invariant-loop-place
invariant-loop-place l = AreAlike (IsCompiledGroup l.cx) (take l.place l.groups) (map group_view l.filters.items)
