-- Whether and why a test of a question is chosen, or a binary asked.
use Rattle.std.specs.Prelude.{◌≡◌, ◌<◌, true, List, length, Contains, Option, Some, Result, Ok, Err, ◌⊎◌}
use Rattle.workspace_record.specs.Records.{Text}
use Rattle.nextest_binaries.specs.Listers.{Shown}
use Rattle.test_select_rules.specs.Binaries.{Binary, binaries}
use Rattle.test_select_checks.specs.Checks.{IsChecked}
use Rattle.test_select_checks.specs.Meaning.{DefaultGivesIn, HoldsIn, MayHoldIn}
use Rattle.test_select_features.specs.Switching.{IsRefused, unknown_extra}
use Rattle.test_select_checks.specs.declared.select_error.SelectError.{SelectError}
use Rattle.test_select_checks.specs.declared.select_error.SelectError.TheVariants.{Record, UnknownExtra, Filter, Memory}
use Rattle.test_select_rules.specs.Asked.{binary_asked, test_asked}
use Rattle.test_select_tests.specs.Questions.{IsFeatureOn, Question}
use Rattle.test_select_tests.specs.Readings.{Readings}
use Rattle.test_select_tests.specs.Reasons.{IsBinaryReason, IsTestReason}
use Rattle.test_select_tests.specs.Selecting.{DefaultHolds, IsAnswered, RefusesText}
use Rattle.test_select_tests.specs.Telling.{TellsAmong}
use Rattle.test_select_tests.specs.declared.reason.Reason.{Reason}
use Rattle.test_select_tests.specs.declared.reason.TestReason.{TestReason}
use Rattle.test_select_tests.specs.declared.reason.BinaryReason.{BinaryReason}

module _ (q : Question) where
  module _ (r : Readings) where
    -- the reason of the test with the name, where the binary lists these
    abbrev pub IsReasonOfTestIn : Binary → List Text → Text → TestReason → Type 0
    IsReasonOfTestIn b names name =
        IsTestReason (Contains names name) (DefaultHolds q r b name) (HoldsIn r.context r.filters (test_asked b name)) r.texts (0 < length q.texts)

    -- that of the binary
    abbrev pub IsReasonOfBinaryIn : Binary → BinaryReason → Type 0
    IsReasonOfBinaryIn b =
        IsBinaryReason (DefaultGivesIn r.context r.filters (binary_asked b) true) (MayHoldIn r.context r.filters (binary_asked b)) r.texts

  -- what is told of the binary with the id, or of its test, where the question is answered
  pub record IsExplained (id : Text) (test : Option Text) (old : Shown) (result : Result Reason SelectError) (new : Shown) : Type 0 where
    pub readings : Readings
    pub answered : IsAnswered q readings
    pub told : TellsAmong (IsReasonOfTestIn readings) (IsReasonOfBinaryIn readings) (IsFeatureOn q) (binaries q.workspace) id test old result new

  -- a question is refused as a selection refuses it, and then the lister is not asked; else this is told
  abbrev pub Explains : Text → Option Text → Shown → Result Reason SelectError → Shown → Type 0
  Explains id test old (Err (Record e)) new = IsRefused q.workspace e × (new ≡ old)
  Explains id test old (Err (UnknownExtra place)) new =
      IsChecked q.workspace (Ok tt) × (unknown_extra q.workspace q.choice ≡ Some place) × (new ≡ old)
  Explains id test old (Err (Filter place faults)) new = RefusesText q place faults × (new ≡ old)
  Explains id test old (Err Memory) new = (new ≡ old) ⊎ IsExplained id test old (Err Memory) new
  Explains id test old r new = IsExplained id test old r new
