-- Why a test is chosen or not, and a binary asked or not.
use Rattle.std.specs.Prelude.{◌≡◌, ℕ, ◌<◌, Bool, true, false, List, length, take, Contains, slice_get, Option, Some, None}
use Rattle.workspace_record.specs.Records.{Text}
use Rattle.workspace_record.specs.Features.{FeatureValue}
use Rattle.feature_account_rules.specs.RuleList.{named_of}
use Rattle.test_select_rules.specs.OnLines.{IsAvailable}
use Rattle.nextest_filter_evaluation.specs.Questions.{IsFirst}
use Rattle.test_select_rules.specs.Binaries.{Binary}
use Rattle.test_select_tests.specs.declared.reason.Reason.{Reason}
use Rattle.test_select_tests.specs.declared.reason.Reason.TheVariants.{NoBinary, Off, Test, Binary as OfBinary}
use Rattle.test_select_tests.specs.declared.reason.TestReason.{TestReason}
use Rattle.test_select_tests.specs.declared.reason.TestReason.TheVariants.{NotListed, DefaultFilter, NoFilter, Chosen, ChosenBy}
use Rattle.test_select_tests.specs.declared.reason.BinaryReason.{BinaryReason}
use Rattle.test_select_tests.specs.declared.reason.BinaryReason.TheVariants as binary

-- the test is chosen
abbrev pub is_chosen : TestReason → Bool
is_chosen NotListed = false
is_chosen DefaultFilter = false
is_chosen NoFilter = false
is_chosen Chosen = true
is_chosen (ChosenBy place) = true

-- the binary is asked
abbrev pub is_asked : BinaryReason → Bool
is_asked binary.DefaultFilter = false
is_asked binary.NoFilter = false
is_asked binary.Asked = true

-- the test is chosen, or the binary asked
abbrev pub says_yes : Reason → Bool
says_yes (NoBinary id) = false
says_yes (Off owner feature) = false
says_yes (Test why) = is_chosen why
says_yes (OfBinary why) = is_asked why

-- the reason is a test's, where these say whether it is listed, whether the default filter holds of it, which of the texts' filters hold, and whether texts are given
module _ {F : Type 0} (listed default : Type 0) (holds : F → Type 0) (filters : List F) (given : Type 0) where
  -- why a test of an available binary is chosen or not: the first of these that applies
  abbrev pub IsTestReason : TestReason → Type 0
  IsTestReason NotListed = listed → ⊥
  IsTestReason DefaultFilter = listed × (default → ⊥)
  IsTestReason NoFilter = listed × default × ((f : F) → Contains filters f → holds f → ⊥)
  IsTestReason Chosen = listed × default × ((f : F) × Contains filters f × holds f) × (given → ⊥)
  IsTestReason (ChosenBy place) = listed × default × (IsFirst holds filters place × (place < length filters)) × given

-- the reason is a binary's, where these say whether some answers let it through the default filter, and whether some let it through a text's
module _ {F : Type 0} (default : Type 0) (may_hold : F → Type 0) (filters : List F) where
  -- why an available binary is asked or not
  abbrev pub IsBinaryReason : BinaryReason → Type 0
  IsBinaryReason binary.DefaultFilter = default → ⊥
  IsBinaryReason binary.NoFilter = default × (((f : F) × Contains filters f × may_hold f) → ⊥)
  IsBinaryReason binary.Asked = default × ((f : F) × Contains filters f × may_hold f)

module _ (on : FeatureValue → Type 0) where
  -- the feature is the first that the binary requires and that is off (from Cargo's reference, "Cargo Targets")
  pub record IsFirstOff (b : Binary) (feature : Text) : Type 0 where
    pub place : ℕ
    pub at : slice_get b.target.required_features place ≡ Some feature
    pub off : on (named_of b.owner.id feature) → ⊥
    pub before : (name : Text) → Contains (take place b.target.required_features) name → on (named_of b.owner.id name)

  -- there is such a feature, or the binary is available (from Cargo's reference, "Cargo Targets")
  abbrev pub FindsOff : Binary → Option Text → Type 0
  FindsOff b (Some feature) = IsFirstOff b feature
  FindsOff b None = IsAvailable on b
