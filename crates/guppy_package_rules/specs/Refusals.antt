-- Why rows make no graph.
use Rattle.std.specs.Prelude.{◌≡◌, ℕ, List, Option, Some}
use Rattle.workspace_record.specs.Records.{Package, Link, WorkspaceDetails}
use Rattle.guppy_package_rules.specs.Rules.{first_broken, first_fault, package_rules}
use Rattle.guppy_package_rules.specs.declared.package_graph_error.PackageGraphError.{PackageGraphError}
use Rattle.guppy_package_rules.specs.declared.package_graph_error.PackageGraphError.TheVariants.{Broken, Memory}
use Rattle.guppy_package_rules.specs.declared.record_rule.RecordRule.{RecordRule}

-- the error names this broken rule and its place, unless memory ran out
abbrev pub Names : Option (RecordRule × ℕ) → PackageGraphError → Type 0
Names fault (Broken rule place) = fault ≡ Some (rule, place)
Names fault Memory = Unit {0}

-- the error names the first rule that the rows break, and the first place that breaks it
abbrev pub IsRefusal : List Package → List Link → WorkspaceDetails → PackageGraphError → Type 0
IsRefusal packages links workspace (Broken rule place) = first_fault (first_broken packages links workspace) package_rules ≡ Some (rule, place)
IsRefusal packages links workspace Memory = Unit {0}
