-- How the refusal of one thing is that of a larger one.
use Rattle.std.specs.Prelude.{◌≡◌, ℕ}
use Rattle.guppy_package_rules.specs.declared.package_graph_error.PackageGraphError.{PackageGraphError}
use Rattle.guppy_package_rules.specs.declared.package_graph_error.PackageGraphError.TheVariants as graph
use Rattle.guppy_package_rules.specs.Refusals.{IsRefusal}
use Rattle.nextest_filtering.specs.declared.refusals.FiltersetError.{FiltersetError}
use Rattle.nextest_filtering.specs.declared.refusals.FiltersetError.TheVariants as filterset
use Rattle.workspace_record.specs.Records.{Workspace}
use Rattle.test_select_checks.specs.declared.record_error.RecordError.{RecordError}
use Rattle.test_select_checks.specs.declared.record_error.RecordError.TheVariants.{Broken, Filter, Memory}
use Rattle.test_select_checks.specs.declared.select_error.SelectError.{SelectError}
use Rattle.test_select_checks.specs.declared.select_error.SelectError.TheVariants as select

-- the rule that its packages, links and members break is the record's
abbrev pub graph_error_of : PackageGraphError → RecordError
graph_error_of (graph.Broken rule place) = Broken rule place
graph_error_of graph.Memory = Memory

-- the faults of the filter at a place are the record's
abbrev pub record_error_of : ℕ → FiltersetError → RecordError
record_error_of place (filterset.Parse refused) = Filter place refused.errors
record_error_of place filterset.Memory = Memory

-- want of memory is always the selection's own
abbrev pub select_error_of : RecordError → SelectError
select_error_of (Broken rule place) = select.Record (Broken rule place)
select_error_of (Filter place errors) = select.Record (Filter place errors)
select_error_of Memory = select.Memory

-- the record has no graph, for this refusal of one
abbrev pub RefusesGraph : Workspace → RecordError → Type 0
RefusesGraph w e = (refused : PackageGraphError) × IsRefusal w.packages w.links w.workspace refused × (e ≡ graph_error_of refused)
