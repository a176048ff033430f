use Rattle.std.proofs.Common.{Err, None, Ok, Some, inl, inr, refl}
use Rattle.test_select_files.specs.declared.file_source.FileFault.TheVariants as fault
use Rattle.cargo_workspace.proofs.ReadingFacts.{asks_one}
use Rattle.cargo_workspace.proofs.reading.bytes_in.Goals as goal

pub returns-in-Ok-Some-clause-reads : goal.returns-in-Ok-Some-clause-reads
returns-in-Ok-Some-clause-reads g c =
    asks_one c.args.name.now (Ok (Some c.in-Ok-Some.bytes.items)) (rw c.in-Ok-Some.field-0-is at c.in-Ok-Some.ensures.0)
    (record { bytes = c.in-Ok-Some.bytes.items; only = refl; makes = refl })

pub returns-in-Ok-None-clause-reads : goal.returns-in-Ok-None-clause-reads
returns-in-Ok-None-clause-reads g c =
    asks_one c.args.name.now (Ok None) (rw c.in-Ok-None.field-0-is at c.in-Ok-None.ensures.0) (refl, inl refl)

pub returns-in-Err-CannotRead-clause-reads : goal.returns-in-Err-CannotRead-clause-reads
returns-in-Err-CannotRead-clause-reads g c =
    asks_one c.args.name.now (Err fault.CannotRead) (rw c.in-Err-CannotRead.field-0-is at c.in-Err-CannotRead.ensures.0) (refl, inr refl)

pub returns-in-Err-Memory-clause-reads : goal.returns-in-Err-Memory-clause-reads
returns-in-Err-Memory-clause-reads g c =
    asks_one c.args.name.now (Err fault.Memory) (rw c.in-Err-Memory.field-0-is at c.in-Err-Memory.ensures.0) tt
