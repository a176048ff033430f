-- What reading comes to: a value, or the fault that refuses the file.
use Rattle.std.specs.Prelude.{◌≡◌, Result, Ok, Err, string_bytes}
use Rattle.cargo_metadata.specs.declared.error.MetadataError.{MetadataError}
use Rattle.cargo_metadata.specs.declared.error.MetadataError.TheVariants.{BadJson, BadShape, BadPackage, UnknownKind, Memory}
use Rattle.cargo_metadata.specs.Faults.{Fault, at_key, at_key_of, unknown_kind}

infixl 10 ◌>>=◌
-- the first read and then, from what it gave, the next; the first fault counts
abbrev pub ◌>>=◌ : {A B : Type 0} → Result A Fault → (A → Result B Fault) → Result B Fault
Ok x >>= next = next x
Err fault >>= next = Err fault

-- A reader failed with this error, where the metadata say `said`. Want of memory says nothing of the
-- value, and a value that was read is JSON.
abbrev pub Fails : {Y : Type 0} → MetadataError → Result Y Fault → Type 0
Fails Memory said = Unit {0}
Fails BadJson said = ⊥
Fails (BadShape key) said = said ≡ Err (at_key key)
Fails (BadPackage owner key) said = said ≡ Err (at_key_of (string_bytes owner) key)
Fails (UnknownKind owner target kind) said =
    said ≡ Err (unknown_kind (string_bytes owner) (string_bytes target) (string_bytes kind))

-- the error is that of this fault; or memory ran out
abbrev pub IsFault : MetadataError → Fault → Type 0
IsFault Memory fault = Unit {0}
IsFault BadJson fault = ⊥
IsFault (BadShape key) fault = fault ≡ at_key key
IsFault (BadPackage owner key) fault = fault ≡ at_key_of (string_bytes owner) key
IsFault (UnknownKind owner target kind) fault =
    fault ≡ unknown_kind (string_bytes owner) (string_bytes target) (string_bytes kind)

-- a reader gave this, where the metadata say `said` of the value, in the view of contracts
abbrev pub Gives : {X Y : Type 0} → (X → Y) → Result X MetadataError → Result Y Fault → Type 0
Gives view (Ok x) said = said ≡ Ok (view x)
Gives view (Err e) said = Fails e said
