-- What the lists of test binaries are read of.
use Rattle.std.specs.Prelude.{◌≡◌, ◌≢◌, ◌⊎◌, ◌++◌, ℕ, Bool, true, false, List, [], ◌∷◌, Option, Some, None, Result, Ok, Err, String, codes, string_bytes}
use Rattle.std.specs.Global.{Global}
use Rattle.workspace_record.specs.Records.{Text}
use Rattle.cargo_files.specs.Added.{IsAdded}
use Rattle.cargo_files.specs.Listed.{AreListed, ArePrinted}
use Rattle.cargo_files.specs.Refused.{RefusesNextest, RefusesPrinted, RefusesTests}
use Rattle.cargo_files.specs.declared.refusal.Refusal.{Refusal}
use Rattle.cargo_files.specs.declared.refusal.Refusal.TheVariants as refusal
use Rattle.cargo_files.specs.declared.refusal.RefusedFile.{RefusedFile}
use Rattle.test_select_files.specs.declared.file_source.FileFault.TheVariants as fault
use Rattle.cargo_workspace.specs.Files.{Asked}
use Rattle.cargo_workspace.specs.Reading.{InTurn, MakesOf}
use Rattle.cargo_workspace.specs.declared.failure.Failure.{Failure}
use Rattle.cargo_workspace.specs.declared.failure.Failure.TheVariants.{CommandLine, CannotRead, Refused, CannotWrite, Memory}

-- binaries by their ids, each with its tests
abbrev pub Listed : Type 0
Listed = List (Text × List Text)

-- the file of the list of a binary in a folder
abbrev pub list_path : Text → Text → Text
list_path folder id = folder ++ codes "/" ++ id

-- a file lists these tests; where there is none there are none
abbrev pub ListsIn : Option (List ℕ) → Option (List Text) → Type 0
ListsIn (Some printed) (Some tests) = ArePrinted printed tests
ListsIn (Some printed) None = ⊥
ListsIn None tests = tests ≡ None

-- one file was asked for, which lists these tests
pub record IsList (path : Text) (tests : Option (List Text)) (asked : Asked) : Type 0 where
  pub file : Option (List ℕ)
  pub only : asked ≡ (path, Ok file) ∷ []
  pub lists : ListsIn file tests

-- one file was asked for and cannot be read, and the refusal names the binary
pub record CannotList (path id : Text) (why : Refusal) (asked : Asked) : Type 0 where
  pub only : asked ≡ (path, Err fault.CannotRead) ∷ []
  pub named : String Global
  pub is : why ≡ refusal.UnreadList named
  pub names : string_bytes named ≡ id

-- one file was asked for, and what it holds is no list
pub record IsNoList (path id : Text) (why : Refusal) (asked : Asked) : Type 0 where
  pub printed : List ℕ
  pub only : asked ≡ (path, Ok (Some printed)) ∷ []
  pub refuses : RefusesPrinted id printed why

-- the tests in the list of a binary in a folder, or why they are not read; of want of memory nothing is said
abbrev pub ReadsList : Text → Text → Result (Option (List Text)) Refusal → Asked → Type 0
ReadsList folder id (Ok tests) asked = IsList (list_path folder id) tests asked
ReadsList folder id (Err why) asked =
    (why ≡ refusal.Memory) ⊎ (CannotList (list_path folder id) id why asked ⊎ IsNoList (list_path folder id) id why asked)

-- tests are added to listings, or refused; no file is asked for
abbrev pub AddsTests : Bool → Text → Listed → Option (List Text) → Result Listed Refusal → Asked → Type 0
AddsTests built id old tests (Ok new) asked = IsAdded id tests built old new × (asked ≡ [])
AddsTests built id old tests (Err why) asked = RefusesTests id tests built why × (asked ≡ [])

-- those of a binary are read, and then added
abbrev pub AddsList : Text → Bool → Text → Listed → Result Listed Refusal → Asked → Type 0
AddsList folder built id old = InTurn (ReadsList folder id) (AddsTests built id old)

-- those of one binary after another are added
abbrev pub AddsLists : Text → Bool → List Text → Listed → Result Listed Refusal → Asked → Type 0
AddsLists folder built [] old (Ok new) asked = (new ≡ old) × (asked ≡ [])
AddsLists folder built [] old (Err why) asked = ⊥
AddsLists folder built (id ∷ ids) old result asked =
    InTurn (AddsList folder built id old) (λ more. AddsLists folder built ids more) result asked

-- a list of the folder is refused, by the folder's name, and not for want of memory
pub record FolderRefused (folder : Text) (built : Bool) (ids : List Text) (file : RefusedFile) (asked : Asked) : Type 0 where
  pub named : file.name.now ≡ folder
  pub refuses : AddsLists folder built ids [] (Err file.refusal) asked
  pub not_memory : file.refusal ≢ refusal.Memory

-- the listings of the binaries in a folder, or why there are none
abbrev pub ReadsFolder : Text → Bool → List Text → Result Listed Failure → Asked → Type 0
ReadsFolder folder built ids (Ok listings) asked = AddsLists folder built ids [] (Ok listings) asked
ReadsFolder folder built ids (Err (Refused file)) asked = FolderRefused folder built ids file asked
ReadsFolder folder built ids (Err Memory) asked = Unit {0}
ReadsFolder folder built ids (Err (CommandLine error)) asked = ⊥
ReadsFolder folder built ids (Err (CannotRead name)) asked = ⊥
ReadsFolder folder built ids (Err CannotWrite) asked = ⊥

-- the listings of the binaries in the file of what nextest printed
abbrev pub ReadsNextest : Text → Bool → List Text → Result Listed Failure → Asked → Type 0
ReadsNextest name built ids =
    MakesOf (λ printed listings. AreListed printed ids built listings) (λ printed why. RefusesNextest printed ids built why) name

-- the one or the other
abbrev pub ReadsLists : Bool → Text → Bool → List Text → Result Listed Failure → Asked → Type 0
ReadsLists true = ReadsNextest
ReadsLists false = ReadsFolder
