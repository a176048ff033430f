-- What is seen of compiled filters of a record.
use Rattle.std.specs.Prelude.{map, string_bytes}
use Rattle.workspace_record.specs.Records.{Text}
use Rattle.nextest_filter_evaluation.specs.Compiled.{Leaf, compiled_of}
use Rattle.nextest_filter_evaluation.specs.Formulas.{Formula}
use Rattle.test_select_checks.specs.RecordFilters.{CompiledFilters}
use Rattle.test_select_checks.specs.declared.filter_parts.GroupFilter.{GroupFilter}
use Rattle.test_select_checks.specs.declared.filter_parts.RecordFilters.{RecordFilters}

-- the group's name with its filter
abbrev pub group_view : GroupFilter → Text × Formula Leaf
group_view g = (string_bytes g.name, compiled_of g.filter)

-- the groups and the default filter
abbrev pub filters_view : RecordFilters → CompiledFilters
filters_view f = record { groups = map group_view f.groups.items; default = compiled_of f.default_filter }
