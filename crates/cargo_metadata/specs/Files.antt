-- Whole files.
use Rattle.std.specs.Prelude.{◌≡◌, ℕ, List, Some, None, Result, Ok, Err, string_bytes}
use Rattle.std.specs.Str.{IsUtf8}
use Rattle.serde_json.specs.Data.{Data}
use Rattle.serde_json.specs.Read.{read}
use Rattle.cargo_metadata.specs.declared.error.MetadataError.{MetadataError}
use Rattle.cargo_metadata.specs.declared.error.MetadataError.TheVariants.{BadJson, BadShape, BadPackage, UnknownKind, Memory}
use Rattle.cargo_metadata.specs.Faults.{Fault, at_key, at_key_of, unknown_kind}

-- The bytes are JSON as `serde_json` reads it, and of the value that they are the format says this.
pub record Reads {Y : Type 0} (format : Data → Result Y Fault) (bytes : List ℕ) (said : Result Y Fault) : Type 0 where
  pub value : Data
  pub text : IsUtf8 bytes
  pub reading : read bytes ≡ Some value
  pub shape : format value ≡ said

-- What a reader of files answers: the value that the format gives for the bytes, the first fault of
-- their shape, or that they are not JSON. Of want of memory nothing is said.
abbrev pub ReadsFile : {X Y : Type 0} → (X → Y) → (Data → Result Y Fault) → List ℕ → Result X MetadataError → Type 0
ReadsFile shows format bytes (Ok x) = Reads format bytes (Ok (shows x))
ReadsFile shows format bytes (Err (BadShape key)) = Reads format bytes (Err (at_key key))
ReadsFile shows format bytes (Err (BadPackage owner key)) = Reads format bytes (Err (at_key_of (string_bytes owner) key))
ReadsFile shows format bytes (Err (UnknownKind owner target kind)) =
    Reads format bytes (Err (unknown_kind (string_bytes owner) (string_bytes target) (string_bytes kind)))
ReadsFile shows format bytes (Err BadJson) = IsUtf8 bytes → read bytes ≡ None
ReadsFile shows format bytes (Err Memory) = Unit {0}
