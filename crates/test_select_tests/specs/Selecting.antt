-- Which tests are chosen, which binaries are asked for theirs, and what a selection comes to.
use Rattle.std.specs.Prelude.{◌≡◌, ℕ, ◌<◌, true, List, [], length, take, All, Contains, slice_get, slice_index_or, Option, Some, None, Result, Ok, Err, ◌↔◌, ◌⊎◌, string_bytes, String, Vec}
use Rattle.std.specs.Global.{Global}
use Rattle.std.specs.List.Sorted.{IsStrictlySortedBy}
use Rattle.list_facts.specs.Ascending.{text_cmp, pair_cmp}
use Rattle.list_facts.specs.Texts.{texts}
use Rattle.workspace_record.specs.Records.{Text}
use Rattle.nextest_binaries.specs.Listers.{Shown, Asked, largest}
use Rattle.nextest_binaries.specs.Asking.{HoldsWellFormed, FailedAt, FaultyAt, AskedSome}
use Rattle.nextest_binaries.specs.declared.fault.ListingFault.{ListingFault}
use Rattle.test_select_rules.specs.Binaries.{Binary, binaries}
use Rattle.test_select_rules.specs.OnLines.{IsAvailable}
use Rattle.nextest_filter_tokens.specs.declared.filterset_kind.FiltersetKind.TheVariants.{Test}
use Rattle.nextest_filter_tokens.specs.declared.parse_error.ParseSingleError.{ParseSingleError}
use Rattle.nextest_filter_evaluation.specs.declared.groups.KnownGroups.{KnownGroups}
use Rattle.nextest_filter_evaluation.specs.Formulas.{Formula}
use Rattle.nextest_filtering.specs.Contexts.{ContextValue}
use Rattle.nextest_filtering.specs.Filters.{FilterLeaf}
use Rattle.nextest_filtering.specs.SameFilters.{AreBytes}
use Rattle.test_select_checks.specs.Checks.{IsChecked}
use Rattle.test_select_checks.specs.Contexts.{HasNamesOf}
use Rattle.test_select_checks.specs.FilterTexts.{IsAcceptedText, IsRefusedText}
use Rattle.test_select_checks.specs.Groups.{AreGroupsOf}
use Rattle.test_select_checks.specs.Meaning.{DefaultGivesIn, DefaultHoldsIn, HoldsIn, MayHoldIn}
use Rattle.test_select_features.specs.Switching.{IsRefused, unknown_extra}
use Rattle.test_select_checks.specs.declared.select_error.SelectError.{SelectError}
use Rattle.test_select_checks.specs.declared.select_error.SelectError.TheVariants.{Record, UnknownExtra, Filter, Lister, BadListing, Memory}
use Rattle.test_select_rules.specs.Asked.{binary_asked, test_asked}
use Rattle.test_select_tests.specs.Questions.{Question, WantedIn, IsFeatureOn}
use Rattle.test_select_tests.specs.Readings.{AreReadings, Readings}
use Rattle.test_select_tests.specs.Selections.{Selected}

module _ (q : Question) where
  -- a test binary of the workspace, whose required features are on (from Cargo's reference, "Cargo Targets"; nextest)
  pub record IsAvailableBinary (b : Binary) : Type 0 where
    pub declared : Contains (binaries q.workspace) b
    pub available : IsAvailable (IsFeatureOn q) b

  -- what is read of the question's filters says which tests are chosen and which binaries are asked
  module _ (r : Readings) where
    -- one of the texts holds of the test in the binary
    abbrev pub TextsHold : Binary → Text → Type 0
    TextsHold b test = (f : Formula FilterLeaf) × Contains r.texts f × HoldsIn r.context r.filters (test_asked b test) f

    -- the default filter holds of it
    abbrev pub DefaultHolds : Binary → Text → Type 0
    DefaultHolds b test = DefaultHoldsIn r.context r.filters (test_asked b test)

    -- some answers about its tests let the binary through one of the texts, and some through the default filter
    -- (from Cargo's reference, "Cargo Targets"; nextest)
    abbrev pub IsLetThrough : Binary → Type 0
    IsLetThrough b = ((f : Formula FilterLeaf) × Contains r.texts f × MayHoldIn r.context r.filters (binary_asked b) f) × DefaultGivesIn r.context r.filters (binary_asked b) true

    -- the binary is to be asked, if it is available: each is, or those that are let through
    abbrev pub IsWanted : Binary → Type 0
    IsWanted b = WantedIn q.asks (IsLetThrough b)

    -- the test of a binary: it is available, its listing holds the test, one of the texts holds, and the default filter does
    -- (from nextest)
    pub record IsChosen (listing_of : Text → Option (List Text)) (pair : Text × Text) : Type 0 where
      pub binary : Binary
      pub available : IsAvailableBinary binary
      pub id : binary.id ≡ pair.0
      pub names : List Text
      pub listing : listing_of binary.id ≡ Some names
      pub listed : Contains names pair.1
      pub holds : TextsHold binary pair.1
      pub default_holds : DefaultHolds binary pair.1

    -- the chosen tests, ascending by binary and then name, each once; their names are made of bytes
    pub record IsReport (listing_of : Text → Option (List Text)) (pairs : List (Text × Text)) : Type 0 where
      pub members : (pair : Text × Text) → Contains pairs pair ↔ IsChosen listing_of pair
      pub byte_names : (pair : Text × Text) → Contains pairs pair → AreBytes pair.1
      pub ascending : IsStrictlySortedBy pair_cmp pairs

    -- the ids of the binaries that are available and wanted, ascending, each once
    pub record IsAsked (ids : List Text) : Type 0 where
      pub members : (id : Text) → Contains ids id ↔ ((b : Binary) × (b.id ≡ id) × IsAvailableBinary b × IsWanted b)
      pub ascending : IsStrictlySortedBy text_cmp ids

    -- the record keeps the rules, the extras are known, and the texts are accepted
    pub record IsAnswered : Type 0 where
      pub checked : IsChecked q.workspace (Ok tt)
      pub known : unknown_extra q.workspace q.choice ≡ None
      pub read : AreReadings q r
      pub accepted : (text : Text) → Contains q.texts text → IsAcceptedText r.context r.groups Test text

  -- the ids of the binaries that are asked, by some reading of the filters
  pub record ListsIds (ids : List Text) : Type 0 where
    pub readings : Readings
    pub answered : IsAnswered readings
    pub asked : IsAsked readings ids

  -- the text at this place is the first that is refused, for these faults
  pub record RefusesText (place : ℕ) (faults : Vec ParseSingleError Global) : Type 0 where
    pub checked : IsChecked q.workspace (Ok tt)
    pub known : unknown_extra q.workspace q.choice ≡ None
    pub context : ContextValue
    pub names : HasNamesOf q.workspace context
    pub groups : KnownGroups
    pub are_groups : AreGroupsOf q.workspace groups
    pub before : (text : Text) → Contains (take place q.texts) text → IsAcceptedText context groups Test text
    pub text : Text
    pub at : slice_get q.texts place ≡ Some text
    pub refused : IsRefusedText context groups Test text faults

  -- the chosen tests, from a lister that was asked for each binary that is wanted, answered each time, and has a well-formed listing for each
  pub record Selects (old : Shown) (selection : Selected) (new : Shown) : Type 0 where
    pub readings : Readings
    pub answered : IsAnswered readings
    pub asked : IsAsked readings selection.asked
    pub lister : Asked old selection.asked new
    pub not_full : 0 < length selection.asked → old.failures < largest
    pub well_formed : All (HoldsWellFormed old) selection.asked
    pub report : IsReport readings old.listing_of selection.chosen

  -- the lister failed for this id: it was asked for the binaries before it, which have well-formed listings
  pub record FailsFor (old : Shown) (id : Text) (new : Shown) : Type 0 where
    pub readings : Readings
    pub answered : IsAnswered readings
    pub ids : List Text
    pub asked : IsAsked readings ids
    pub place : ℕ
    pub at : slice_index_or ids place [] ≡ id
    pub failed : FailedAt old ids place new

  -- the listing of this id, the last one that was asked, has the fault
  pub record FaultyFor (old : Shown) (id : Text) (fault : ListingFault) (new : Shown) : Type 0 where
    pub readings : Readings
    pub answered : IsAnswered readings
    pub ids : List Text
    pub asked : IsAsked readings ids
    pub place : ℕ
    pub at : slice_index_or ids place [] ≡ id
    pub faulty : FaultyAt old ids place fault new

  -- memory ran out once the question was known to be answered: a beginning of its ids was asked for
  pub record StopsWithin (old new : Shown) : Type 0 where
    pub readings : Readings
    pub answered : IsAnswered readings
    pub ids : List Text
    pub asked : IsAsked readings ids
    pub begun : AskedSome old ids new

  -- what a selection comes to, and what it asks the lister: nothing where the question is refused; where memory runs out nothing either, or a beginning of the ids
  abbrev pub Answers : Shown → Result Selected SelectError → Shown → Type 0
  Answers old (Ok selection) new = Selects old selection new
  Answers old (Err (Record e)) new = IsRefused q.workspace e × (new ≡ old)
  Answers old (Err (UnknownExtra place)) new = IsChecked q.workspace (Ok tt) × (unknown_extra q.workspace q.choice ≡ Some place) × (new ≡ old)
  Answers old (Err (Filter place faults)) new = RefusesText place faults × (new ≡ old)
  Answers old (Err (Lister id)) new = FailsFor old (string_bytes id) new
  Answers old (Err (BadListing id fault)) new = FaultyFor old (string_bytes id) fault new
  Answers old (Err Memory) new = (new ≡ old) ⊎ StopsWithin old new

  -- the ids of the binaries to ask, or why the question is refused; nobody is asked, so no lister is blamed
  abbrev pub ListsAsked : Result (Vec (String Global) Global) SelectError → Type 0
  ListsAsked (Ok ids) = ListsIds (texts ids.items)
  ListsAsked (Err (Record e)) = IsRefused q.workspace e
  ListsAsked (Err (UnknownExtra place)) = IsChecked q.workspace (Ok tt) × (unknown_extra q.workspace q.choice ≡ Some place)
  ListsAsked (Err (Filter place faults)) = RefusesText place faults
  ListsAsked (Err (Lister id)) = ⊥
  ListsAsked (Err (BadListing id fault)) = ⊥
  ListsAsked (Err Memory) = Unit {0}
