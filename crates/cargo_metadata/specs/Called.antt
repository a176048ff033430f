-- Which package a fault is in.
use Rattle.std.specs.Prelude.{Option, Some, None, option_and_then, Result, Ok, Err}
use Rattle.std.specs.Option.{option_or}
use Rattle.serde_json.specs.Data.{Data}
use Rattle.serde_json.specs.Find.{as_str}
use Rattle.workspace_record.specs.Records.{Text}
use Rattle.cargo_metadata.specs.declared.key.Key.{Key}
use Rattle.cargo_metadata.specs.declared.key.Key.TheVariants as key
use Rattle.cargo_metadata.specs.Faults.{Fault, at_key, at_key_of, unknown_kind}
use Rattle.cargo_metadata.specs.Values.{given}

-- the text that an object gives under a key, if any
abbrev pub text_under : Key → Data → Option Text
text_under key d = option_and_then as_str (given key d)

-- what a package is called: its name, or else its id
abbrev pub called : Data → Option Text
called d = option_or (text_under key.Name d) (text_under key.Id d)

-- the fault at a key of a package, which is named where it is called something
abbrev pub key_fault : Option Text → Key → Fault
key_fault None key = at_key key
key_fault (Some name) key = at_key_of name key

-- what is said of a package that is called so
abbrev pub told_of : {A : Type 0} → Option Text → Result A Fault → Result A Fault
told_of name (Ok x) = Ok x
told_of name (Err (at_key key)) = Err (key_fault name key)
told_of name (Err (at_key_of owner key)) = Err (at_key_of owner key)
told_of name (Err (unknown_kind owner target kind)) = Err (unknown_kind owner target kind)

-- what `read` says of a package, whose faults name it
abbrev pub of_package : {A : Type 0} → (Data → Result A Fault) → Data → Result A Fault
of_package read d = told_of (called d) (read d)
