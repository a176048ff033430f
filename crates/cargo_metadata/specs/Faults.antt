-- What is missing or of the wrong kind.
use Rattle.workspace_record.specs.Records.{Text}
use Rattle.cargo_metadata.specs.declared.key.Key.{Key}

-- a fault: at a key, at a key of a package by what it is called, or of a target with a kind that is not known, by its package, its name and the kind
pub data Fault : Type 0 where
  at_key : Key → Fault
  at_key_of : Text → Key → Fault
  unknown_kind : Text → Text → Text → Fault
