-- What filters say by links that are on, and by declared links.
use Rattle.std.specs.Prelude.{◌≡◌, ◌↔◌, Bool, true, false, List, Contains, Option}
use Rattle.workspace_record.specs.Records.{Text, Workspace}
use Rattle.workspace_record.specs.Choices.{Choice}
use Rattle.workspace_record.specs.Features.{FeatureValue}
use Rattle.workspace_record.specs.declared.choice.PlatformTable.{PlatformTable}
use Rattle.guppy_package_table.specs.Tables.{TableValue, IsTableOf}
use Rattle.test_select_rules.specs.Binaries.{Binary}
use Rattle.test_select_features.specs.LinesOn.{links_on}
use Rattle.nextest_filtering.specs.Contexts.{ContextValue}
use Rattle.nextest_filter_tokens.specs.declared.filterset_kind.FiltersetKind.{FiltersetKind}
use Rattle.nextest_filter_tokens.specs.declared.heads.Predicate.TheVariants as names
use Rattle.nextest_filter_evaluation.specs.NameTests.{NameTest}
use Rattle.nextest_filter_evaluation.specs.declared.groups.KnownGroups.{KnownGroups}
use Rattle.nextest_filter_evaluation.specs.Formulas.{Formula, has_leaf}
use Rattle.nextest_filtering.specs.Filters.{FilterLeaf, Named}
use Rattle.nextest_filtering.specs.Meaning.{IsDependency, IsDependent}
use Rattle.test_select_tests.specs.declared.scope.LinkScope.TheVariants.{Declared}
use Rattle.test_select_checks.specs.Contexts.{HasNamesOf}
use Rattle.test_select_checks.specs.FilterTexts.{IsAcceptedText}
use Rattle.test_select_checks.specs.Groups.{AreGroupsOf}
use Rattle.test_select_tests.specs.Questions.{Question}
use Rattle.test_select_tests.specs.Readings.{AreReadings, Readings}
use Rattle.test_select_tests.specs.Selecting.{IsAsked, IsAvailableBinary, IsReport}
use Rattle.test_select_tests.specs.declared.asked_binaries.AskedBinaries.{AskedBinaries}

-- the graph has the packages of the declared one, and just the lines that are on where these features are
-- (from nextest's filtersets)
abbrev pub IsSwitchedOn : TableValue → List FeatureValue → PlatformTable → TableValue → Type 0
IsSwitchedOn declared on table g = IsTableOf declared.packages (links_on declared on table) declared.workspace g

-- what `deps` and `rdeps` find by links that are on, they find by declared links, among the same packages or more
-- (from nextest's filtersets)
abbrev pub SwitchedDependenciesAreDeclared : Type 0
SwitchedDependenciesAreDeclared =
    (switched declared : ContextValue) (on : List FeatureValue) (table : PlatformTable) (test : NameTest) (id : Text)
    → IsSwitchedOn declared.graph on table switched.graph
    → ((p : Text × Text) → Contains switched.packages p → Contains declared.packages p)
    → (IsDependency switched test id → IsDependency declared test id) × (IsDependent switched test id → IsDependent declared test id)

-- a text is accepted alike over each two contexts with the names of one record, whichever links their paths follow, and whatever is on there
abbrev pub AcceptedTextsAgree : Type 0
AcceptedTextsAgree =
    (w : Workspace) (cx dx : ContextValue) (groups others : KnownGroups) (kind : FiltersetKind) (text : Text)
    → HasNamesOf w cx
    → HasNamesOf w dx
    → AreGroupsOf w groups
    → AreGroupsOf w others
    → IsAcceptedText cx groups kind text
    → IsAcceptedText dx others kind text

-- which tests of a workspace, under a choice and on a platform, over declared links
abbrev pub over_declared : Workspace → List Text → AskedBinaries → Choice → PlatformTable → Question
over_declared w texts asks choice table = record { workspace = w; choice = choice; table = table; scope = Declared; texts = texts; asks = asks }

-- the same binaries are available in both questions
abbrev pub AreAvailableAlike : Question → Question → Type 0
AreAvailableAlike q p = (b : Binary) → IsAvailableBinary q b ↔ IsAvailableBinary p b

abbrev pub names_feature : FilterLeaf → Bool
names_feature (Named names.Feature test span) = true
names_feature _ = false

-- no text, no group's filter and no default filter names features
pub record NameNoFeature (r : Readings) : Type 0 where
  pub texts : (f : Formula FilterLeaf) → Contains r.texts f → has_leaf names_feature f ≡ false
  pub groups : (g : Text × Formula FilterLeaf) → Contains r.filters.groups g → has_leaf names_feature g.1 ≡ false
  pub default : has_leaf names_feature r.filters.default ≡ false

-- two questions, each as it is read, have one report over the same listings, and ask for the same binaries
pub record Agree (q p : Question) (r s : Readings) : Type 0 where
  pub reports : (listing_of : Text → Option (List Text)) (pairs others : List (Text × Text)) → IsReport q r listing_of pairs → IsReport p s listing_of others → pairs ≡ others
  pub asked : (ids others : List Text) → IsAsked q r ids → IsAsked p s others → ids ≡ others

-- over declared links, and by filters that name no features, choices and platforms that make the same binaries available agree
abbrev pub DeclaredSelectionsAgree : Type 0
DeclaredSelectionsAgree =
    (w : Workspace) (texts : List Text) (asks : AskedBinaries) (choice other : Choice) (table known : PlatformTable) (r s : Readings)
    → AreReadings (over_declared w texts asks choice table) r
    → AreReadings (over_declared w texts asks other known) s
    → NameNoFeature r
    → NameNoFeature s
    → AreAvailableAlike (over_declared w texts asks choice table) (over_declared w texts asks other known)
    → Agree (over_declared w texts asks choice table) (over_declared w texts asks other known) r s
