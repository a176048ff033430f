-- A record that keeps the rules, with what was found in it.
use Rattle.std.specs.Prelude.{◌≡◌, List, Ok}
use Rattle.workspace_record.specs.Records.{Workspace}
use Rattle.guppy_package_table.specs.Tables.{TableValue}
use Rattle.test_select_rules.specs.Binaries.{Binary, binaries}
use Rattle.test_select_checks.specs.Checks.{IsChecked}
use Rattle.test_select_checks.specs.Contexts.{IsDeclaredGraph}

-- the record keeps the rules, the graph is that of its packages, and these are its test binaries
pub record AreFoundIn (w : Workspace) (graph : TableValue) (found : List Binary) : Type 0 where
  pub checked : IsChecked w (Ok tt)
  pub declared : IsDeclaredGraph w graph
  pub those : found ≡ binaries w
