-- What is told of a binary or of its test, and what the lister is asked for it.
use Rattle.std.specs.Prelude.{◌≡◌, List, [], ◌∷◌, Contains, Option, Some, None, Result, Ok, Err, ◌⊎◌, Vec, String, string_bytes}
use Rattle.std.specs.Global.{Global}
use Rattle.list_facts.specs.Texts.{texts}
use Rattle.workspace_record.specs.Records.{Text}
use Rattle.workspace_record.specs.Features.{FeatureValue}
use Rattle.nextest_binaries.specs.Listers.{Shown}
use Rattle.nextest_binaries.specs.Asking.{Answered, FailedAt, FaultyAt, AskedSome}
use Rattle.test_select_rules.specs.OnLines.{IsAvailable}
use Rattle.test_select_rules.specs.Binaries.{Binary}
use Rattle.test_select_checks.specs.declared.select_error.SelectError.{SelectError}
use Rattle.test_select_checks.specs.declared.select_error.SelectError.TheVariants.{Record, UnknownExtra, Filter, Lister, BadListing, Memory}
use Rattle.test_select_tests.specs.Reasons.{IsFirstOff}
use Rattle.test_select_tests.specs.declared.reason.Reason.{Reason}
use Rattle.test_select_tests.specs.declared.reason.Reason.TheVariants.{NoBinary, Off, Test, Binary as OfBinary}
use Rattle.test_select_tests.specs.declared.reason.TestReason.{TestReason}
use Rattle.test_select_tests.specs.declared.reason.BinaryReason.{BinaryReason}

-- what asking for the tests of the binary with this id comes to
abbrev pub ListsOne : Shown → Text → Result (Vec (String Global) Global) SelectError → Shown → Type 0
ListsOne old id (Ok names) new = Answered old (id ∷ []) (texts names.items ∷ []) new
ListsOne old id (Err (Record e)) new = ⊥
ListsOne old id (Err (UnknownExtra place)) new = ⊥
ListsOne old id (Err (Filter place faults)) new = ⊥
ListsOne old id (Err (Lister named)) new = (string_bytes named ≡ id) × FailedAt old (id ∷ []) 0 new
ListsOne old id (Err (BadListing named fault)) new = (string_bytes named ≡ id) × FaultyAt old (id ∷ []) 0 fault new
ListsOne old id (Err Memory) new = AskedSome old (id ∷ []) new

-- it is said which reasons are those of a binary's test, where the binary lists these names, and which are the binary's
module _ (is_of_test : Binary → List Text → Text → TestReason → Type 0) (is_of_binary : Binary → BinaryReason → Type 0) where
  -- the reason is that of the test, by the listing for which the lister was asked
  pub record IsTold (b : Binary) (test : Text) (old : Shown) (why : TestReason) (new : Shown) : Type 0 where
    pub names : List Text
    pub listing : Answered old (b.id ∷ []) (names ∷ []) new
    pub reason : is_of_test b names test why

  -- what is told of the test: the lister is asked for its binary alone
  abbrev pub TellsOfTest : Binary → Text → Shown → Result Reason SelectError → Shown → Type 0
  TellsOfTest b test old (Ok (NoBinary named)) new = ⊥
  TellsOfTest b test old (Ok (Off owner feature)) new = ⊥
  TellsOfTest b test old (Ok (Test why)) new = IsTold b test old why new
  TellsOfTest b test old (Ok (OfBinary why)) new = ⊥
  TellsOfTest b test old (Err (Record e)) new = ⊥
  TellsOfTest b test old (Err (UnknownExtra place)) new = ⊥
  TellsOfTest b test old (Err (Filter place faults)) new = ⊥
  TellsOfTest b test old (Err (Lister named)) new = (string_bytes named ≡ b.id) × FailedAt old (b.id ∷ []) 0 new
  TellsOfTest b test old (Err (BadListing named fault)) new = (string_bytes named ≡ b.id) × FaultyAt old (b.id ∷ []) 0 fault new
  TellsOfTest b test old (Err Memory) new = AskedSome old (b.id ∷ []) new

  -- what is told of the binary: the lister is not asked
  abbrev pub TellsOfItself : Binary → Shown → Result Reason SelectError → Shown → Type 0
  TellsOfItself b old (Ok (NoBinary named)) new = ⊥
  TellsOfItself b old (Ok (Off owner feature)) new = ⊥
  TellsOfItself b old (Ok (Test why)) new = ⊥
  TellsOfItself b old (Ok (OfBinary why)) new = is_of_binary b why × (new ≡ old)
  TellsOfItself b old (Err (Record e)) new = ⊥
  TellsOfItself b old (Err (UnknownExtra place)) new = ⊥
  TellsOfItself b old (Err (Filter place faults)) new = ⊥
  TellsOfItself b old (Err (Lister named)) new = ⊥
  TellsOfItself b old (Err (BadListing named fault)) new = ⊥
  TellsOfItself b old (Err Memory) new = new ≡ old

  -- what is told where the binary is available: of the test, if one is named
  abbrev pub TellsOfAvailable : Binary → Option Text → Shown → Result Reason SelectError → Shown → Type 0
  TellsOfAvailable b (Some test) = TellsOfTest b test
  TellsOfAvailable b None = TellsOfItself b

  module _ (on : FeatureValue → Type 0) where
    -- a required feature that is off is told first, and the lister is not asked
    abbrev pub TellsOf : Binary → Option Text → Shown → Result Reason SelectError → Shown → Type 0
    TellsOf b test old (Ok (Off owner feature)) new =
        (owner.now ≡ b.owner.id) × IsFirstOff on b feature.now × (new ≡ old)
    TellsOf b test old r new = IsAvailable on b × TellsOfAvailable b test old r new

    -- and before it, that no binary has the id
    abbrev pub TellsAmong : List Binary → Text → Option Text → Shown → Result Reason SelectError → Shown → Type 0
    TellsAmong all id test old (Ok (NoBinary named)) new =
        (named.now ≡ id) × ((b : Binary) → Contains all b → b.id ≡ id → ⊥) × (new ≡ old)
    TellsAmong all id test old (Err Memory) new =
        (new ≡ old) ⊎ ((b : Binary) × Contains all b × (b.id ≡ id) × TellsOf b test old (Err Memory) new)
    TellsAmong all id test old r new = (b : Binary) × Contains all b × (b.id ≡ id) × TellsOf b test old r new
