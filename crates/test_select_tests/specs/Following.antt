-- Which links paths follow.
use Rattle.std.specs.Prelude.{List}
use Rattle.workspace_record.specs.Records.{Workspace}
use Rattle.workspace_record.specs.Features.{FeatureValue}
use Rattle.workspace_record.specs.declared.choice.PlatformTable.{PlatformTable}
use Rattle.guppy_package_table.specs.Tables.{TableValue, IsTableOf}
use Rattle.test_select_features.specs.LinesOn.{links_on}
use Rattle.test_select_checks.specs.Contexts.{IsDeclaredGraph}
use Rattle.test_select_tests.specs.declared.scope.LinkScope.{LinkScope}
use Rattle.test_select_tests.specs.declared.scope.LinkScope.TheVariants.{SwitchedOn, Declared}

-- the graph whose links paths follow in the scope: that of the record, or the one with just the lines that are on, where these features are
abbrev pub IsFollowedIn : LinkScope → Workspace → List FeatureValue → PlatformTable → TableValue → Type 0
IsFollowedIn Declared w on table g = IsDeclaredGraph w g
IsFollowedIn SwitchedOn w on table g = (declared : TableValue) × IsDeclaredGraph w declared × IsTableOf declared.packages (links_on declared on table) declared.workspace g
