-- Asking for the listings of planned binaries, and choosing from them.
use Rattle.std.specs.Prelude.{◌≡◌, ℕ, ◌<◌, List, [], length, map, All, Contains, slice_index_or, Option, Some, None, Result, Ok, Err, ◌↔◌, string_bytes, String}
use Rattle.std.specs.BTreeMap.{BTreeMap}
use Rattle.std.specs.Global.{Global}
use Rattle.std.specs.Prelude.{Vec}
use Rattle.std.specs.List.{zip}
use Rattle.std.specs.List.Sorted.{IsStrictlySortedBy}
use Rattle.list_facts.specs.Ascending.{pair_cmp}
use Rattle.list_facts.specs.Texts.{texts}
use Rattle.workspace_record.specs.Records.{Text}
use Rattle.nextest_binaries.specs.Listers.{Shown, Asked, largest, listing_in}
use Rattle.nextest_binaries.specs.Asking.{HoldsWellFormed, FailedAt, FaultyAt, AskedSome}
use Rattle.nextest_binaries.specs.declared.fault.AskError.{AskError}
use Rattle.nextest_binaries.specs.declared.fault.AskError.TheVariants as ask
use Rattle.nextest_binaries.specs.declared.fault.ListingFault.{ListingFault}
use Rattle.nextest_filtering.specs.SameFilters.{AreBytes}
use Rattle.test_select_rules.specs.Binaries.{Binary}
use Rattle.test_select_rules.specs.BinaryView.{binary_view}
use Rattle.test_select_rules.specs.declared.test_binary.TestBinary.{TestBinary}
use Rattle.test_select_checks.specs.declared.select_error.SelectError.{SelectError}
use Rattle.test_select_checks.specs.declared.select_error.SelectError.TheVariants.{Record, UnknownExtra, Filter, Lister, BadListing, Memory}
use Rattle.test_select_tests.specs.Selections.{Selected}

-- the ids of the binaries
abbrev pub ids_of : List Binary → List Text
ids_of asked = map (λ b. b.id) asked

module _ (holds : Binary → Text → Type 0) where
  -- the test is one of these of the binary, and it is said to hold
  pub record IsTestOf (b : Binary) (names : List (String Global)) (pair : Text × Text) : Type 0 where
    pub id : b.id ≡ pair.0
    pub listed : Contains (texts names) pair.1
    pub is_held : holds b pair.1

  -- the same of one of these binaries and its listing
  pub record IsListed (entries : List (TestBinary × Vec (String Global) Global)) (pair : Text × Text) : Type 0 where
    pub entry : TestBinary × Vec (String Global) Global
    pub among : Contains entries entry
    pub is_its : IsTestOf (binary_view entry.0) entry.1.items pair

  -- the tests of the binaries that are said to hold, ascending, each once
  pub record AreListed (asked : List TestBinary) (listings : List (Vec (String Global) Global)) (pairs : List (Text × Text)) : Type 0 where
    pub members : (pair : Text × Text) → Contains pairs pair ↔ IsListed (zip asked listings) pair
    pub ascending : IsStrictlySortedBy pair_cmp pairs

  -- the test is in the listing of one of the binaries, and it is said to hold
  pub record IsMatched (asked : List Binary) (listing_of : Text → Option (List Text)) (pair : Text × Text) : Type 0 where
    pub binary : Binary
    pub is_asked : Contains asked binary
    pub id : binary.id ≡ pair.0
    pub names : List Text
    pub listing : listing_of binary.id ≡ Some names
    pub listed : Contains names pair.1
    pub is_held : holds binary pair.1

  -- each binary was asked, each listing is well-formed, and the matched tests, whose names are made of bytes, are those that are chosen
  pub record IsCarriedOut (asked : List Binary) (old : Shown) (selection : Selected) (new : Shown) : Type 0 where
    pub ids : selection.asked ≡ ids_of asked
    pub lister : Asked old (ids_of asked) new
    pub not_full : 0 < length (ids_of asked) → old.failures < largest
    pub well_formed : All (HoldsWellFormed old) (ids_of asked)
    pub chosen : (pair : Text × Text) → Contains selection.chosen pair ↔ IsMatched asked old.listing_of pair
    pub byte_names : (pair : Text × Text) → Contains selection.chosen pair → AreBytes pair.1
    pub ascending : IsStrictlySortedBy pair_cmp selection.chosen

-- the lister failed at a binary with this id
pub record FailsAt (ids : List Text) (old : Shown) (id : Text) (new : Shown) : Type 0 where
  pub place : ℕ
  pub at : slice_index_or ids place [] ≡ id
  pub failed : FailedAt old ids place new

-- the listing of a binary with this id has the fault
pub record IsFaultyAt (ids : List Text) (old : Shown) (id : Text) (fault : ListingFault) (new : Shown) : Type 0 where
  pub place : ℕ
  pub at : slice_index_or ids place [] ≡ id
  pub faulty : FaultyAt old ids place fault new

-- what carrying out a plan comes to
abbrev pub CarriesOut : (Binary → Text → Type 0) → List Binary → Shown → Result Selected SelectError → Shown → Type 0
CarriesOut holds asked old (Ok selection) new = IsCarriedOut holds asked old selection new
CarriesOut holds asked old (Err (Record e)) new = ⊥
CarriesOut holds asked old (Err (UnknownExtra place)) new = ⊥
CarriesOut holds asked old (Err (Filter place faults)) new = ⊥
CarriesOut holds asked old (Err (Lister id)) new = FailsAt (ids_of asked) old (string_bytes id) new
CarriesOut holds asked old (Err (BadListing id fault)) new = IsFaultyAt (ids_of asked) old (string_bytes id) fault new
CarriesOut holds asked old (Err Memory) new = AskedSome old (ids_of asked) new

-- a binary is blamed for want of a listing only where none of these is its
abbrev pub BlamesUnlisted : {A : Type 0} → BTreeMap (String Global) (Vec (String Global) Global) → Result A SelectError → Type 0
BlamesUnlisted listings result = (id : String Global) → result ≡ Err (Lister id) → listing_in listings (string_bytes id) ≡ None

-- the binary that is blamed has the id at the place at which asking failed
abbrev pub BlamesAt : {A B : Type 0} → List Text → Result A AskError → Result B SelectError → Type 0
BlamesAt ids asking result = (id : String Global) → result ≡ Err (Lister id) → (place : ℕ) × (asking ≡ Err (ask.Lister place)) × (slice_index_or ids place [] ≡ string_bytes id)
