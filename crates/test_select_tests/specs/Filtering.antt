-- What compiling the filters of a question comes to.
use Rattle.std.specs.Prelude.{◌≡◌, ℕ, List, [], ◌∷◌, Contains, Some, Result, Ok, Err, Vec, map, slice_get, take}
use Rattle.std.specs.Global.{Global}
use Rattle.workspace_record.specs.Records.{Text, Workspace}
use Rattle.nextest_filter_tokens.specs.declared.filterset_kind.FiltersetKind.TheVariants.{Test}
use Rattle.nextest_filter_tokens.specs.declared.parse_error.ParseSingleError.{ParseSingleError}
use Rattle.nextest_filter_evaluation.specs.declared.groups.KnownGroups.{KnownGroups}
use Rattle.nextest_filter_evaluation.specs.Compiled as compiled
use Rattle.nextest_filter_evaluation.specs.Compiled.{Leaf, compiled_of}
use Rattle.nextest_filter_evaluation.specs.Formulas.{Formula, leaf}
use Rattle.nextest_filter_evaluation.specs.declared.compiled_expr.CompiledExpr.{CompiledExpr}
use Rattle.nextest_filtering.specs.Contexts.{ContextValue}
use Rattle.test_select_rules.specs.RecordRules.{fault_of}
use Rattle.test_select_checks.specs.Alike.{AreAlike}
use Rattle.test_select_checks.specs.FilterTexts.{IsAcceptedText, IsCompiledText, IsRefusedText}
use Rattle.test_select_checks.specs.Groups.{AreGroupsOf}
use Rattle.test_select_checks.specs.RecordFilters.{AreCompiledOf, RefusesFilter}
use Rattle.test_select_checks.specs.declared.record_error.RecordError.{RecordError}
use Rattle.test_select_checks.specs.declared.record_error.RecordError.TheVariants as refused
use Rattle.test_select_checks.specs.declared.select_error.SelectError.{SelectError}
use Rattle.test_select_checks.specs.declared.select_error.SelectError.TheVariants.{Record, UnknownExtra, Filter, Lister, BadListing, Memory}
use Rattle.test_select_tests.specs.QuestionFilters.{CompiledQuestion, question_view}
use Rattle.test_select_tests.specs.declared.question_filters.QuestionFilters.{QuestionFilters}

module _ (cx : ContextValue) (groups : KnownGroups) where
  -- the texts, compiled; where none is given, the filter of all tests
  abbrev pub AreCompiledTexts : List Text → List (Formula Leaf) → Type 0
  AreCompiledTexts [] filters = filters ≡ leaf compiled.All ∷ []
  AreCompiledTexts (text ∷ texts) filters = AreAlike (IsCompiledText cx groups Test) (text ∷ texts) filters

  -- the text at the place is the first that is refused, for these faults
  pub record RefusesTextIn (texts : List Text) (place : ℕ) (faults : Vec ParseSingleError Global) : Type 0 where
    pub before : (text : Text) → Contains (take place texts) text → IsAcceptedText cx groups Test text
    pub text : Text
    pub at : slice_get texts place ≡ Some text
    pub refused : IsRefusedText cx groups Test text faults

  -- the filters of given texts, or the first that is refused
  abbrev pub CompilesGiven : List Text → Result (Vec CompiledExpr Global) SelectError → Type 0
  CompilesGiven texts (Ok filters) = AreAlike (IsCompiledText cx groups Test) texts (map compiled_of filters.items)
  CompilesGiven texts (Err (Record e)) = ⊥
  CompilesGiven texts (Err (UnknownExtra place)) = ⊥
  CompilesGiven texts (Err (Filter place faults)) = RefusesTextIn texts place faults
  CompilesGiven texts (Err (Lister id)) = ⊥
  CompilesGiven texts (Err (BadListing id fault)) = ⊥
  CompilesGiven texts (Err Memory) = Unit {0}

  -- the filters of the texts, or the first that is refused
  abbrev pub CompilesTexts : List Text → Result (Vec CompiledExpr Global) SelectError → Type 0
  CompilesTexts texts (Ok filters) = AreCompiledTexts texts (map compiled_of filters.items)
  CompilesTexts texts (Err (Record e)) = ⊥
  CompilesTexts texts (Err (UnknownExtra place)) = ⊥
  CompilesTexts texts (Err (Filter place faults)) = RefusesTextIn texts place faults
  CompilesTexts texts (Err (Lister id)) = ⊥
  CompilesTexts texts (Err (BadListing id fault)) = ⊥
  CompilesTexts texts (Err Memory) = Unit {0}

  -- the filter of the text at the place
  abbrev pub CompilesText : ℕ → Text → Result CompiledExpr SelectError → Type 0
  CompilesText place text (Ok filter) = IsCompiledText cx groups Test text (compiled_of filter)
  CompilesText place text (Err (Record e)) = ⊥
  CompilesText place text (Err (UnknownExtra p)) = ⊥
  CompilesText place text (Err (Filter p faults)) = (p ≡ place) × IsRefusedText cx groups Test text faults
  CompilesText place text (Err (Lister id)) = ⊥
  CompilesText place text (Err (BadListing id fault)) = ⊥
  CompilesText place text (Err Memory) = Unit {0}

-- the filters of the record and of the texts, compiled over the context
pub record AreFiltersIn (cx : ContextValue) (w : Workspace) (given : List Text) (f : CompiledQuestion) : Type 0 where
  pub groups : KnownGroups
  pub are_groups : AreGroupsOf w groups
  pub filters : AreCompiledOf cx w f.filters
  pub texts : AreCompiledTexts cx groups given f.texts

-- the record breaks a rule, or a filter of it is refused
abbrev pub IsFaulted : Workspace → RecordError → Type 0
IsFaulted w (refused.Broken rule place) = fault_of w ≡ Some (rule, place)
IsFaulted w (refused.Filter place errors) = RefusesFilter w place errors
IsFaulted w refused.Memory = ⊥

-- the filters of a question over some context that passes, or why they are refused
abbrev pub Filters : (ContextValue → Type 0) → Workspace → List Text → Result QuestionFilters SelectError → Type 0
Filters passes w texts (Ok filters) = (cx : ContextValue) × passes cx × AreFiltersIn cx w texts (question_view filters)
Filters passes w texts (Err (Record e)) = IsFaulted w e
Filters passes w texts (Err (UnknownExtra place)) = ⊥
Filters passes w texts (Err (Filter place faults)) = (cx : ContextValue) × passes cx × ((groups : KnownGroups) × AreGroupsOf w groups × RefusesTextIn cx groups texts place faults)
Filters passes w texts (Err (Lister id)) = ⊥
Filters passes w texts (Err (BadListing id fault)) = ⊥
Filters passes w texts (Err Memory) = Unit {0}
