-- What the filters of a question read as.
use Rattle.std.specs.Prelude.{◌≡◌, List, [], ◌∷◌}
use Rattle.workspace_record.specs.Records.{Text}
use Rattle.workspace_record.specs.Features.{FeatureValue}
use Rattle.nextest_filter_evaluation.specs.declared.groups.KnownGroups.{KnownGroups}
use Rattle.nextest_filter_evaluation.specs.Formulas.{Formula, leaf}
use Rattle.nextest_filtering.specs.Contexts.{ContextValue}
use Rattle.nextest_filtering.specs.Filters.{FilterLeaf}
use Rattle.nextest_filtering.specs.Filters as filter
use Rattle.test_select_checks.specs.Alike.{AreAlike}
use Rattle.test_select_checks.specs.Contexts.{HasNamesOf}
use Rattle.test_select_checks.specs.FilterTexts.{IsFilterOf}
use Rattle.test_select_checks.specs.Groups.{AreGroupsOf}
use Rattle.test_select_checks.specs.RecordFilters.{AreReadingsOf, FilterReadings}
use Rattle.test_select_features.specs.Switching.{AreOn}
use Rattle.test_select_tests.specs.Questions.{IsSpelled, Question}
use Rattle.test_select_tests.specs.Following.{IsFollowedIn}
use Rattle.test_select_tests.specs.NamedFeatures.{AreNamedOn}

-- what the texts read as; where none is given, the filter of all tests
abbrev pub AreReadAs : List Text → List (Formula FilterLeaf) → Type 0
AreReadAs [] filters = filters ≡ leaf filter.All ∷ []
AreReadAs (text ∷ texts) filters = AreAlike IsFilterOf (text ∷ texts) filters

-- the packages and paths over which filters are read, the groups that they may name, what the filters of the record read as, and what the texts do
pub record Readings : Type 0 where
  pub context : ContextValue
  pub groups : KnownGroups
  pub filters : FilterReadings
  pub texts : List (Formula FilterLeaf)

module _ (q : Question) where
  -- where these features are on, paths follow the links of the scope, and the named ones among them are said to be on
  abbrev pub IsFollowed : ContextValue → Type 0
  IsFollowed cx = (on : List FeatureValue) × AreOn q.workspace q.choice q.table on × IsFollowedIn q.scope q.workspace on q.table cx.graph × AreNamedOn on cx.on

  -- names are made of bytes and matched over what the members need by declared links, paths follow the links of the scope, features are those that are on, and each filter is what its text reads as
  pub record AreReadings (r : Readings) : Type 0 where
    pub spelled : IsSpelled q
    pub names : HasNamesOf q.workspace r.context
    pub followed : IsFollowed r.context
    pub groups : AreGroupsOf q.workspace r.groups
    pub filters : AreReadingsOf q.workspace r.filters
    pub texts : AreReadAs q.texts r.texts
