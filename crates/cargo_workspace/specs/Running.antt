-- How a run of the program ends, by its words and by what its files answered.
use Rattle.std.specs.Prelude.{◌≡◌, ◌⊎◌, ◌++◌, ℕ, List, [], Option, Some, None, Result, Ok, Err, IfErr, IsErrAnd, bytes_eq, codes, if◌then◌else◌}
use Rattle.clap.specs.Words.{Row, fault_of, subcommand_of}
use Rattle.list_facts.specs.Writers.{Writes}
use Rattle.workspace_record.specs.Records.{Text}
use Rattle.test_select_files.specs.Telling.{Tells}
use Rattle.cargo_workspace.specs.Conversions.{MakesChoice, MakesListings, MakesRecord, MakesTable}
use Rattle.test_select_files.specs.Mistakes.{AreMistakes}
use Rattle.cargo_workspace.specs.Failures.{IsBadLine, failure_lines, status_of}
use Rattle.cargo_workspace.specs.Files.{Answer, Asked, Asks}
use Rattle.cargo_workspace.specs.Maker.{maker}
use Rattle.cargo_workspace.specs.declared.conversions.Conversion.{Conversion}
use Rattle.cargo_workspace.specs.declared.conversions.Conversion.TheVariants as conversion
use Rattle.cargo_workspace.specs.declared.failure.Failure.{Failure}
use Rattle.cargo_workspace.specs.declared.failure.Failure.TheVariants.{CannotWrite, Memory}

-- the conversion with this name
abbrev pub conversion_named : Text → Option Conversion
conversion_named name =
    if bytes_eq name (codes "record") then Some conversion.Record else (if bytes_eq name (codes "table") then Some conversion.Table else (if bytes_eq name (codes "choice") then Some conversion.Choice else (if bytes_eq name (codes "listings") then Some conversion.Listings else None)))

-- what a conversion makes by its words, or why nothing is made
abbrev pub Makes : Conversion → List Row → Result Text Failure → Asked → Type 0
Makes conversion.Record = MakesRecord
Makes conversion.Table = MakesTable
Makes conversion.Choice = MakesChoice
Makes conversion.Listings = MakesListings

-- the same of a conversion that may be asked for; where none is, nothing is read and the text is empty
abbrev pub MakesIfAny : Option Conversion → List Row → Result Text Failure → Asked → Type 0
MakesIfAny (Some c) words made asked = Makes c words made asked
MakesIfAny None words made asked = (made ≡ Ok []) × (asked ≡ [])

-- the same of the conversion with the name of a subcommand, and of the words behind it
abbrev pub MakesAsked : Option (Text × List Row) → Result Text Failure → Asked → Type 0
MakesAsked (Some below) made asked = MakesIfAny (conversion_named below.0) below.1 made asked
MakesAsked None made asked = (made ≡ Ok []) × (asked ≡ [])

-- the text is printed with a line feed, or the output takes no more and a beginning of both is; where none was made nothing is printed
abbrev pub PrintsMade : Result Text Failure → Result (Unit {0}) Failure → Option Text → Option Text → Type 0
PrintsMade (Ok text) result old new = Writes old new result (text ++ codes "\n") × IfErr result (λ failure. failure ≡ CannotWrite)
PrintsMade (Err failure) result old new = (result ≡ Err failure) × (new ≡ old)

-- what the words ask for was made of the files, or not, and then printed
pub record MakesAndPrints (below : Option (Text × List Row)) (result : Result (Unit {0}) Failure) (old new : Option Text) (asked : Asked) : Type 0 where
  pub made : Result Text Failure
  pub makes : MakesAsked below made asked
  pub prints : PrintsMade made result old new

-- how a run ends; memory may run out before any file is asked for
abbrev pub EndsRun : Option (Text × List Row) → Result (Unit {0}) Failure → Option Text → Option Text → Asked → Type 0
EndsRun below result old new asked =
    ((result ≡ Err Memory) × (new ≡ old) × (asked ≡ [])) ⊎ MakesAndPrints below result old new asked

-- the status that a run ends with
abbrev pub status_by : Result (Unit {0}) Failure → ℕ
status_by (Ok x) = 0
status_by (Err failure) = status_of failure

-- what standard error gets of how a run ends: nothing, or the lines of its failure
abbrev pub TellsOutcome : Result (Unit {0}) Failure → Option Text → Option Text → Type 0
TellsOutcome (Ok x) old new = new ≡ old
TellsOutcome (Err failure) old new = Tells (failure_lines failure) old new

-- a run on these words ends with the status, has told of its failure, and has printed what the words ask for, where `clap` finds no fault in them; where it finds mistakes, they are refused, no file is asked for, and nothing printed
pub record EndsProgram (words : List Text) (R : List ℕ → Text → Answer → List ℕ → Type 0) (s t : List ℕ) (old new err_old err_new : Option Text) (status : ℕ) : Type 0 where
  pub outcome : Result (Unit {0}) Failure
  pub is_status : status ≡ status_by outcome
  pub told : TellsOutcome outcome err_old err_new
  pub ends : fault_of maker words ≡ [] → Asks R s t (EndsRun (subcommand_of maker words) outcome old new)
  pub mistakes : AreMistakes (fault_of maker words) → IsErrAnd outcome IsBadLine × (new ≡ old) × (t ≡ s)
