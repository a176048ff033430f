-- What is missing or of the wrong kind.
use Rattle.std.specs.Prelude.{string_bytes}
use Rattle.workspace_record.specs.Records.{Text}
use Rattle.record_files.specs.declared.field.Field.{Field}
use Rattle.record_files.specs.declared.field.Field.TheVariants as field
use Rattle.record_files.specs.declared.key.Key.{Key}
use Rattle.record_files.specs.Keys.{key_of}

-- a fault, as the formats say it: at a key, or in the listing of a binary
pub data Fault : Type 0 where
  at_key : Key → Fault
  at_binary : Text → Fault

-- the fault that a field names
abbrev pub fault_of : Field → Fault
fault_of (field.Key key) = at_key key
fault_of (field.Binary id) = at_binary (string_bytes id)

-- the text that names a fault: the key, or the binary's id
abbrev pub fault_text : Fault → Text
fault_text (at_key key) = key_of key
fault_text (at_binary id) = id
