-- Reasons, as the compiled filters of a question give them.
use Rattle.std.specs.Prelude.{Bool, true, false, ℕ, List, Contains}
use Rattle.workspace_record.specs.Records.{Text}
use Rattle.nextest_filter_evaluation.specs.Formulas.{SomeAnswersGive}
use Rattle.nextest_filter_evaluation.specs.Meaning.{DefaultGives, DefaultHolds, MayBe}
use Rattle.nextest_binaries.specs.Queries as asked
use Rattle.test_select_tests.specs.QuestionFilters.{CompiledQuestion, TextPasses}
use Rattle.test_select_rules.specs.Binaries.{Binary}
use Rattle.test_select_rules.specs.Asked.{binary_asked, test_asked}
use Rattle.test_select_tests.specs.Reasons.{IsBinaryReason, IsTestReason}
use Rattle.test_select_tests.specs.declared.reason.TestReason.{TestReason}
use Rattle.test_select_tests.specs.declared.reason.TestReason.TheVariants.{Chosen, ChosenBy}
use Rattle.test_select_tests.specs.declared.reason.BinaryReason.{BinaryReason}

module _ (q : CompiledQuestion) where
  -- the reason of a test, where this says whether it is listed, and whether texts are given
  abbrev pub IsReasonOf : Type 0 → Type 0 → asked.Test → TestReason → Type 0
  IsReasonOf listed given t = IsTestReason listed (DefaultHolds q.filters.default t) (TextPasses q t) q.texts given

  -- that of one which is listed
  abbrev pub IsReasonOfListed : Type 0 → asked.Test → TestReason → Type 0
  IsReasonOfListed = IsReasonOf (Unit {0})

  -- that of the test with the name, where the binary lists these
  abbrev pub IsReasonOfTest : Type 0 → Binary → List Text → Text → TestReason → Type 0
  IsReasonOfTest given b names name = IsReasonOf (Contains names name) given (test_asked b name)

  -- that of the binary
  abbrev pub IsReasonOfBinary : Binary → BinaryReason → Type 0
  IsReasonOfBinary b =
      IsBinaryReason (DefaultGives q.filters.default (binary_asked b) true) (λ c. SomeAnswersGive (MayBe q.filters.default (binary_asked b)) c true) q.texts

-- the text at the place, if texts are given
abbrev pub chosen_by : Bool → ℕ → TestReason
chosen_by true place = ChosenBy place
chosen_by false place = Chosen
