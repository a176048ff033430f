-- What is made of the files that were asked for, or why nothing is.
use Rattle.std.specs.Prelude.{◌≡◌, ◌≢◌, ◌⊎◌, ◌++◌, ℕ, List, [], ◌∷◌, Some, None, Result, Ok, Err}
use Rattle.workspace_record.specs.Records.{Text}
use Rattle.cargo_files.specs.declared.refusal.Refusal.{Refusal}
use Rattle.cargo_files.specs.declared.refusal.Refusal.TheVariants as refusal
use Rattle.cargo_files.specs.declared.refusal.RefusedFile.{RefusedFile}
use Rattle.test_select_files.specs.declared.file_source.FileFault.TheVariants as fault
use Rattle.cargo_workspace.specs.Files.{Asked}
use Rattle.cargo_workspace.specs.declared.failure.Failure.{Failure}
use Rattle.cargo_workspace.specs.declared.failure.Failure.TheVariants.{CommandLine, CannotRead, Refused, CannotWrite, Memory}

-- the same of what is shown of a value
abbrev pub shown : {X Y E : Type 0} → (X → Y) → Result X E → Result Y E
shown shows (Ok x) = Ok (shows x)
shown shows (Err why) = Err why

-- one file was asked for, and there is none with this name, or it cannot be read
abbrev pub IsUnread : Text → Asked → Type 0
IsUnread name asked = (asked ≡ (name, Ok None) ∷ []) ⊎ (asked ≡ (name, Err fault.CannotRead) ∷ [])

-- one file was asked for, and is refused for its bytes, and not for want of memory
pub record IsRefused (Refuses : List ℕ → Refusal → Type 0) (name : Text) (file : RefusedFile) (asked : Asked) : Type 0 where
  pub named : file.name.now ≡ name
  pub bytes : List ℕ
  pub only : asked ≡ (name, Ok (Some bytes)) ∷ []
  pub refuses : Refuses bytes file.refusal
  pub not_memory : file.refusal ≢ refusal.Memory

-- the file with this name cannot be read, or is refused; of want of memory nothing is said
abbrev pub FileFails : (List ℕ → Refusal → Type 0) → Text → Failure → Asked → Type 0
FileFails Refuses name (CannotRead at) asked = (at.now ≡ name) × IsUnread name asked
FileFails Refuses name (Refused file) asked = IsRefused Refuses name file asked
FileFails Refuses name Memory asked = Unit {0}
FileFails Refuses name (CommandLine error) asked = ⊥
FileFails Refuses name CannotWrite asked = ⊥

-- one file was asked for, and this was made of its bytes
pub record IsMade {X : Type 0} (Makes : List ℕ → X → Type 0) (name : Text) (value : X) (asked : Asked) : Type 0 where
  pub bytes : List ℕ
  pub only : asked ≡ (name, Ok (Some bytes)) ∷ []
  pub makes : Makes bytes value

-- what is made of the bytes of the file with this name, or why nothing is
abbrev pub MakesOf : {X : Type 0} → (List ℕ → X → Type 0) → (List ℕ → Refusal → Type 0) → Text → Result X Failure → Asked → Type 0
MakesOf Makes Refuses name (Ok value) asked = IsMade Makes name value asked
MakesOf Makes Refuses name (Err failure) asked = FileFails Refuses name failure asked

-- the bytes of the file with this name, which none refuses
abbrev pub ReadsBytes : Text → Result (List ℕ) Failure → Asked → Type 0
ReadsBytes = MakesOf (λ bytes value. value ≡ bytes) (λ bytes why. ⊥)

-- the one is made of some files, and of it and of those after them the other
module _ {X Y E : Type 0} (First : Result X E → Asked → Type 0) (Next : X → Result Y E → Asked → Type 0) where
  -- the one was made, and then this came of it
  pub record Follows (result : Result Y E) (asked : Asked) : Type 0 where
    pub for_first : Asked
    pub for_next : Asked
    pub in_order : asked ≡ for_first ++ for_next
    pub value : X
    pub first : First (Ok value) for_first
    pub next : Next value result for_next

  -- both were made, or why the first of them that failed did; no file was asked for after it
  abbrev pub InTurn : Result Y E → Asked → Type 0
  InTurn (Ok value) asked = Follows (Ok value) asked
  InTurn (Err why) asked = First (Err why) asked ⊎ Follows (Err why) asked
