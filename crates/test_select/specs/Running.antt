-- How a run of the program ends, by its words and by what its files answered.
use Rattle.std.specs.Prelude.{◌≡◌, ◌⊎◌, ℕ, List, [], IsErrAnd, Option, Some, None, Result, Ok, Err}
use Rattle.std.specs.Io.KnownBytes.{Keeps}
use Rattle.clap.specs.Words.{App, Row, fault_of, subcommand_of}
use Rattle.workspace_record.specs.Records.{Text}
use Rattle.test_select_files.specs.Files.{Answer}
use Rattle.test_select_files.specs.Mistakes.{AreMistakes}
use Rattle.test_select_files.specs.Reading.{Asked, Asks}
use Rattle.test_select_files.specs.Telling.{TellsUnless}
use Rattle.test_select_files.specs.Verdicts.{EndsCheck}
use Rattle.test_select_files.specs.declared.run_failure.RunFailure.{RunFailure}
use Rattle.test_select_files.specs.declared.run_failure.RunFailure.TheVariants as run
use Rattle.test_select.specs.AccountCommands.{EndsAccount, EndsExplanation}
use Rattle.test_select.specs.Asking.{AsksNoPart}
use Rattle.test_select.specs.Changes.{EndsChanged}
use Rattle.test_select.specs.Failures.{failure_lines, is_denial, status_of}
use Rattle.test_select.specs.FeatureCommands.{EndsFeatures, EndsOrder, EndsRules}
use Rattle.test_select.specs.Selections.{EndsBinaries, EndsTests, EndsWhy}
use Rattle.test_select.specs.Tasks.{IsSelector, task_named}
use Rattle.test_select.specs.declared.failure.Failure.{Failure}
use Rattle.test_select.specs.declared.failure.Failure.TheVariants.{BadPartition, Run}
use Rattle.test_select.specs.declared.tasks.Task.{Task}
use Rattle.test_select.specs.declared.tasks.Task.TheVariants as task

-- the end of a check, as the program has it
abbrev pub as_run : Result (Unit {0}) RunFailure → Result (Unit {0}) Failure
as_run (Ok x) = Ok x
as_run (Err failure) = Err (Run failure)

-- how `check` ends: as the checker of accounts does on these words
abbrev pub EndsVerdict : List Row → Result (Unit {0}) Failure → Option Text → Option Text → Asked → Type 0
EndsVerdict words result old new asked =
    (checked : Result (Unit {0}) RunFailure) × (result ≡ as_run checked) × EndsCheck words checked old new asked

-- how a task ends on its words
abbrev pub EndsTask : Task → List Row → Result (Unit {0}) Failure → Option Text → Option Text → Asked → Type 0
EndsTask task.Tests = EndsTests
EndsTask task.Binaries = EndsBinaries
EndsTask task.Changed = EndsChanged
EndsTask task.Why = EndsWhy
EndsTask task.Account = EndsAccount
EndsTask task.Check = EndsVerdict
EndsTask task.Explain = EndsExplanation
EndsTask task.Order = EndsOrder
EndsTask task.Features = EndsFeatures
EndsTask task.Rules = EndsRules

-- how the task ends that is asked for; where none is, no file is read and nothing printed
abbrev pub EndsIfAny : Option Task → List Row → Result (Unit {0}) Failure → Option Text → Option Text → Asked → Type 0
EndsIfAny (Some task) words result old new asked = EndsTask task words result old new asked
EndsIfAny None words result old new asked = Keeps old new × (asked ≡ [])

-- how a run ends whose words ask for a task by this name, with these words behind it
abbrev pub EndsRun : Option (Text × List Row) → Result (Unit {0}) Failure → Option Text → Option Text → Asked → Type 0
EndsRun (Some below) result old new asked = EndsIfAny (task_named below.0) below.1 result old new asked
EndsRun None result old new asked = Keeps old new × (asked ≡ [])

-- the words behind the name ask for no part of the tests, by this text
abbrev pub HasNoPart : Option (Text × List Row) → Text → Type 0
HasNoPart (Some below) text = AsksNoPart below.1 text
HasNoPart None text = ⊥

-- a run ends as its task does, and its words do not ask for no part
abbrev pub EndsAsked : Option (Text × List Row) → Result (Unit {0}) Failure → Option Text → Option Text → Asked → Type 0
EndsAsked below result old new asked = ((text : Text) → HasNoPart below text → ⊥) × EndsRun below result old new asked

-- words that ask for no part are refused by that text before any file is read; or a run ends as its task does; or memory ran out, where of such words nothing is said
abbrev pub EndsAs : Option (Text × List Row) → Result (Unit {0}) Failure → Option Text → Option Text → Asked → Type 0
EndsAs below (Err (BadPartition text)) old new asked = HasNoPart below text.now × (new ≡ old) × (asked ≡ [])
EndsAs below (Err (Run run.Memory)) old new asked = EndsRun below (Err (Run run.Memory)) old new asked
EndsAs below result old new asked = EndsAsked below result old new asked

-- words in which `clap` finds mistakes are refused, with status 2, or memory ran out; no file is asked for, and nothing printed
pub record RefusesMistakes (words : List Text) (s t : List ℕ) (old new : Option Text) (result : Result (Unit {0}) Failure) : Type 0 where
  pub app : App
  pub is_selector : IsSelector app
  pub refuses : AreMistakes (fault_of app words) → IsErrAnd result (λ f. (f ≡ Run run.Memory) ⊎ (status_of f ≡ 2)) × (new ≡ old) × (t ≡ s)

-- what the words ask for, by the program as `clap` is told of it, where it finds no fault in them
pub record Means (words : List Text) (Holds : Option (Text × List Row) → Type 0) : Type 0 where
  pub app : App
  pub is_selector : IsSelector app
  pub holds : fault_of app words ≡ [] → Holds (subcommand_of app words)

-- the status that a run ends with
abbrev pub status_by : Result (Unit {0}) Failure → ℕ
status_by (Ok x) = 0
status_by (Err failure) = status_of failure

-- what standard error gets of how a run ends: nothing, also where what was asked is denied, or the lines of its failure
abbrev pub TellsOutcome : Result (Unit {0}) Failure → Option Text → Option Text → Type 0
TellsOutcome (Ok x) old new = new ≡ old
TellsOutcome (Err failure) old new = TellsUnless (is_denial failure) (failure_lines failure) old new

-- a run on these words ends with the status, has printed what its task answers by what the files answered, and has told of its failure
pub record EndsProgram (words : List Text) (R : List ℕ → Text → Answer → List ℕ → Type 0) (s t : List ℕ) (old new err_old err_new : Option Text) (status : ℕ) : Type 0 where
  pub outcome : Result (Unit {0}) Failure
  pub is_status : status ≡ status_by outcome
  pub told : TellsOutcome outcome err_old err_new
  pub means : Means words (λ below. Asks R s t (EndsAs below outcome old new))
  pub mistakes : RefusesMistakes words s t old new outcome
