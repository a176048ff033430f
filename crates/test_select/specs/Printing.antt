-- How a command ends that prints what it answers.
use Rattle.std.specs.Prelude.{◌≡◌, Bool, true, false, Option, Result, Ok, Err}
use Rattle.std.specs.Io.KnownBytes.{Appends}
use Rattle.list_facts.specs.Writers.{AddsUpTo}
use Rattle.workspace_record.specs.Records.{Text}
use Rattle.test_select_checks.specs.declared.select_error.SelectError.{SelectError}
use Rattle.test_select_files.specs.Reading.{Asked, EndsAfter}
use Rattle.test_select_files.specs.declared.run_failure.RunFailure.{RunFailure}
use Rattle.test_select_files.specs.declared.run_failure.RunFailure.TheVariants as run
use Rattle.test_select.specs.declared.failure.Failure.{Failure}
use Rattle.test_select.specs.declared.failure.Failure.TheVariants.{BadPartition, BadGlob, NotBelow, NotText, Refused, Run}

-- it is said what a command may answer, or why it is refused; which text an answer has; and whether it is a no
module _ {A : Type 0} (Gives : Result A SelectError → Type 0) (IsText : A → Text → Type 0) (is_no : A → Bool) where
  -- an answer with its text, of which this holds
  pub record Answers (no : Bool) (Holds : Text → Type 0) : Type 0 where
    pub answer : A
    pub given : Gives (Ok answer)
    pub means : is_no answer ≡ no
    pub text : Text
    pub is_text : IsText answer text
    pub holds : Holds text

  -- the text is printed, of a no too; or the question is refused, or memory ran out, before anything was; or the output takes no more, and some beginning of the text is
  abbrev pub Prints : Result (Unit {0}) Failure → Option Text → Option Text → Type 0
  Prints (Ok x) old new = Answers false (λ text. Appends old new text)
  Prints (Err (Run run.Denied)) old new = Answers true (λ text. Appends old new text)
  Prints (Err (Run run.CannotWrite)) old new = (no : Bool) × Answers no (λ text. (rest : Text) × AddsUpTo old new text rest)
  Prints (Err (Run run.Memory)) old new = new ≡ old
  Prints (Err (Refused error)) old new = Gives (Err error) × (new ≡ old)
  Prints (Err (Run (run.CommandLine error))) old new = ⊥
  Prints (Err (Run (run.CannotRead name))) old new = ⊥
  Prints (Err (Run (run.BadFile name error))) old new = ⊥
  Prints (Err (BadPartition text)) old new = ⊥
  Prints (Err (NotText name)) old new = ⊥
  Prints (Err (BadGlob text error)) old new = ⊥
  Prints (Err (NotBelow path)) old new = ⊥

-- no answer is a no
abbrev pub never : {A : Type 0} → A → Bool
never answer = false

-- how a command ends that reads some files first: by what was read, or by the first file that failed, and then nothing is printed
abbrev pub EndsReading : {X : Type 0} → (Result X RunFailure → Asked → Type 0) → (X → Result (Unit {0}) Failure → Option Text → Option Text → Type 0) → Result (Unit {0}) Failure → Option Text → Option Text → Asked → Type 0
EndsReading Reads Ends result old new =
    EndsAfter Reads (λ x. Ends x result old new) (λ failure. (result ≡ Err (Run failure)) × (new ≡ old))
