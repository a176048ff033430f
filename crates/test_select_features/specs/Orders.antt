-- The order in which the packages of a workspace build.
use Rattle.std.specs.Prelude.{List, Result, String, Vec}
use Rattle.std.specs.Global.{Global}
use Rattle.list_facts.specs.Texts.{texts}
use Rattle.workspace_record.specs.Records.{Text, Workspace}
use Rattle.workspace_record.specs.Features.{FeatureValue}
use Rattle.workspace_record.specs.Choices.{Choice}
use Rattle.workspace_record.specs.declared.choice.PlatformTable.{PlatformTable}
use Rattle.guppy_package_table.specs.Tables.{TableValue}
use Rattle.test_select_features.specs.DependencyOrders.{IsDependencyOrder}
use Rattle.test_select_features.specs.LinesOn.{links_on}
use Rattle.test_select_checks.specs.Contexts.{IsDeclaredGraph}
use Rattle.test_select_features.specs.Switching.{AnswersOrRefuses, AreOn}
use Rattle.test_select_checks.specs.declared.select_error.SelectError.{SelectError}

-- the ids are a dependency order of the packages that are on where these features are, over the lines of the record that are on
pub record IsOrderBy (w : Workspace) (table : PlatformTable) (on : List FeatureValue) (ids : List Text) : Type 0 where
  pub declared : TableValue
  pub is_declared : IsDeclaredGraph w declared
  pub order : IsDependencyOrder declared.packages (links_on declared on table) on ids

-- the ids are such an order for the features that are on under the choice
pub record IsPackageOrder (w : Workspace) (choice : Choice) (table : PlatformTable) (ids : List Text) : Type 0 where
  pub on : List FeatureValue
  pub are_on : AreOn w choice table on
  pub ordered : IsOrderBy w table on ids

-- the order of the packages, or why it is refused
abbrev pub Orders : Workspace → Choice → PlatformTable → Result (Vec (String Global) Global) SelectError → Type 0
Orders w choice table = AnswersOrRefuses (λ v. IsPackageOrder w choice table (texts v.items)) w choice
