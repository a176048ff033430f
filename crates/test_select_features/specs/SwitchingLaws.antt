-- The laws of graphs with just the lines that are on.
use Rattle.std.specs.Prelude.{◌≡◌, List}
use Rattle.workspace_record.specs.Features.{FeatureValue}
use Rattle.workspace_record.specs.declared.choice.PlatformTable.{PlatformTable}
use Rattle.guppy_package_table.specs.Tables.{IsTableOf, TableValue, ids_of}
use Rattle.test_select_features.specs.LinesOn.{links_on}

-- the graph with just the lines that are on has the packages of the whole one, by which `same_packages` is answered
-- (from guppy's `same_packages`)
abbrev pub SwitchingKeepsPackages : Type 0
SwitchingKeepsPackages =
    (g switched : TableValue) (on : List FeatureValue) (table : PlatformTable) → IsTableOf g.packages (links_on g on table) g.workspace switched → ids_of switched.packages ≡ ids_of g.packages
