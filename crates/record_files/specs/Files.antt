-- Whole files.
use Rattle.std.specs.Prelude.{◌≡◌, ℕ, List, Some, None, Result, Ok, Err}
use Rattle.std.specs.Str.{IsUtf8}
use Rattle.std.specs.declared.alloc.Global.{Global}
use Rattle.json.specs.declared.value.Value.{Value}
use Rattle.serde_json.specs.Data.{Data}
use Rattle.serde_json.specs.Read.{read}
use Rattle.record_files.specs.declared.error.ReadError.{ReadError}
use Rattle.record_files.specs.declared.error.ReadError.TheVariants.{BadJson, BadShape, Memory}
use Rattle.record_files.specs.Faults.{Fault, fault_of}
use Rattle.record_files.specs.Trees.{seen}

-- The bytes are JSON as `serde_json` reads it, and of the value that they are the format says this.
pub record Reads {Y : Type 0} (format : Data → Result Y Fault) (bytes : List ℕ) (said : Result Y Fault) : Type 0 where
  pub value : Data
  pub text : IsUtf8 bytes
  pub reading : read bytes ≡ Some value
  pub shape : format value ≡ said

-- What a reader of files answers: the value that the format gives for the bytes, the first fault of
-- their shape, or that they are not JSON. Of want of memory nothing is said. (from the docs of `serde_json`)
abbrev pub ReadsFile : {X Y : Type 0} → (X → Y) → (Data → Result Y Fault) → List ℕ → Result X ReadError → Type 0
ReadsFile shows format bytes (Ok x) = Reads format bytes (Ok (shows x))
ReadsFile shows format bytes (Err (BadShape field)) = Reads format bytes (Err (fault_of field))
ReadsFile shows format bytes (Err BadJson) = IsUtf8 bytes → read bytes ≡ None
ReadsFile shows format bytes (Err Memory) = Unit {0}

-- the bytes were read as JSON, or are not JSON
abbrev pub Parses : List ℕ → Result (Value Global) ReadError → Type 0
Parses bytes (Ok v) = IsUtf8 bytes × (read bytes ≡ Some (seen v))
Parses bytes (Err (BadShape field)) = ⊥
Parses bytes (Err BadJson) = IsUtf8 bytes → read bytes ≡ None
Parses bytes (Err Memory) = Unit {0}
