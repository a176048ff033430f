-- What reading comes to: a value, or the fault that refuses the file.
use Rattle.std.specs.Prelude.{◌≡◌, Result, Ok, Err}
use Rattle.record_files.specs.declared.error.ReadError.{ReadError}
use Rattle.record_files.specs.declared.error.ReadError.TheVariants.{BadJson, BadShape, Memory}
use Rattle.record_files.specs.Faults.{Fault, fault_of}

infixl 10 ◌>>=◌
-- the first read and then, from what it gave, the next; the first fault counts
abbrev pub ◌>>=◌ : {A B : Type 0} → Result A Fault → (A → Result B Fault) → Result B Fault
Ok x >>= next = next x
Err fault >>= next = Err fault

-- A reader failed with this error, where the format says `said`. Want of memory says nothing of the
-- value, and a value that was read is JSON.
abbrev pub Fails : {Y : Type 0} → ReadError → Result Y Fault → Type 0
Fails Memory said = Unit {0}
Fails BadJson said = ⊥
Fails (BadShape field) said = said ≡ Err (fault_of field)

-- a reader gave this, where the format says `said` of the value, in the view of contracts
abbrev pub Gives : {X Y : Type 0} → (X → Y) → Result X ReadError → Result Y Fault → Type 0
Gives view (Ok x) said = said ≡ Ok (view x)
Gives view (Err e) said = Fails e said
