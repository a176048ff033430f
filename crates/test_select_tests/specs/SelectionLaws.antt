-- What holds of each two selections.
use Rattle.std.specs.Prelude.{◌≡◌, ◌↔◌, List, Option, Contains, Ok}
use Rattle.workspace_record.specs.Records.{Text}
use Rattle.nextest_filtering.specs.SameFilters.{AreBytes}
use Rattle.nextest_binaries.specs.Listers.{Shown}
use Rattle.test_select_tests.specs.Questions.{Question}
use Rattle.test_select_tests.specs.Readings.{AreReadings, Readings}
use Rattle.test_select_tests.specs.Selecting.{Answers, IsAsked, IsChosen, IsReport, ListsIds}
use Rattle.test_select_tests.specs.Selections.{Selected, report}
use Rattle.test_select_tests.specs.declared.asked_binaries.AskedBinaries.{AskedBinaries}

-- two readings say of the same tests that they are chosen, and of the same binaries that they are asked
pub record SayTheSame (q : Question) (r s : Readings) : Type 0 where
  pub chosen : (listing_of : Text → Option (List Text)) (pair : Text × Text) → AreBytes pair.1 → IsChosen q r listing_of pair ↔ IsChosen q s listing_of pair
  pub asked : (ids : List Text) → IsAsked q r ids ↔ IsAsked q s ids

-- in whichever way the filters of a question are read, they say the same
abbrev pub ReadingsSayTheSame : Type 0
ReadingsSayTheSame = (q : Question) (r s : Readings) → AreReadings q r → AreReadings q s → SayTheSame q r s

-- a binary that is not asked has no chosen test
abbrev pub UnaskedHaveNoChosenTest : Type 0
UnaskedHaveNoChosenTest =
    (q : Question) (r : Readings) (ids : List Text) (listing_of : Text → Option (List Text)) (pair : Text × Text)
    → IsAsked q r ids
    → (Contains ids pair.0 → ⊥)
    → IsChosen q r listing_of pair
    → ⊥

-- over the same listings, a question has one report, whichever binaries are asked
abbrev pub ReportsAgree : Type 0
ReportsAgree =
    (q : Question) (r s : Readings) (asks : AskedBinaries) (listing_of : Text → Option (List Text)) (pairs others : List (Text × Text))
    → AreReadings q r
    → AreReadings (record q { asks = asks }) s
    → IsReport q r listing_of pairs
    → IsReport (record q { asks = asks }) s listing_of others
    → pairs ≡ others

-- two selections of a question choose the same tests and report the same bytes, whichever binaries are asked, where what the first asked has the same listings in the other
abbrev pub SelectionsReportAlike : Type 0
SelectionsReportAlike =
    (q : Question) (asks : AskedBinaries) (old new before after : Shown) (one other : Selected)
    → Answers q old (Ok one) new
    → Answers (record q { asks = asks }) before (Ok other) after
    → ((id : Text) → Contains one.asked id → old.listing_of id ≡ before.listing_of id)
    → (one.chosen ≡ other.chosen) × (report one.chosen ≡ report other.chosen)

-- a selection asked just the binaries that are listed for its question
abbrev pub SelectionsAskWhatIsListed : Type 0
SelectionsAskWhatIsListed =
    (q : Question) (old new : Shown) (selection : Selected) (ids : List Text)
    → Answers q old (Ok selection) new
    → ListsIds q ids
    → selection.asked ≡ ids

-- listings of the listed binaries suffice: with the same ones for these, two selections choose the same tests and report the same bytes
abbrev pub ListedBinariesSuffice : Type 0
ListedBinariesSuffice =
    (q : Question) (ids : List Text) (old new before after : Shown) (one other : Selected)
    → ListsIds q ids
    → Answers q old (Ok one) new
    → Answers q before (Ok other) after
    → ((id : Text) → Contains ids id → old.listing_of id ≡ before.listing_of id)
    → (one.chosen ≡ other.chosen) × (report one.chosen ≡ report other.chosen)
