-- The statuses of a run that fails, the lines that tell of it, and why a file is refused.
use Rattle.std.specs.Prelude.{◌≡◌, ◌⊎◌, ℕ, ◌++◌, List, Option, Some, None, Result, Ok, Err, codes}
use Rattle.std.specs.Borrow.{Bor}
use Rattle.workspace_record.specs.Records.{Text}
use Rattle.cargo_files.specs.declared.refusal.Refusal.{Refusal}
use Rattle.cargo_files.specs.declared.refusal.Refusal.TheVariants as refusal
use Rattle.cargo_workspace.specs.declared.failure.Failure.{Failure}
use Rattle.cargo_workspace.specs.declared.failure.Failure.TheVariants.{CommandLine, CannotRead, Refused, CannotWrite, Memory}

-- the status with which the program ends: 2 for a bad command line, and else 1
abbrev pub status_of : Failure → ℕ
status_of (CommandLine error) = 2
status_of (CannotRead name) = 1
status_of (Refused file) = 1
status_of CannotWrite = 1
status_of Memory = 1

-- a command line is refused, with status 2, or memory ran out
abbrev pub IsBadLine : Failure → Type 0
IsBadLine failure = (failure ≡ Memory) ⊎ (status_of failure ≡ 2)

-- the lines that tell of a failure, where they are known; of a bad command line `clap` tells, and of a file that is refused the library that refuses it
abbrev pub failure_lines : Failure → Option Text
failure_lines (CommandLine error) = None
failure_lines (CannotRead name) = Some (codes "cannot read " ++ name.now ++ codes "\n")
failure_lines (Refused file) = None
failure_lines CannotWrite = Some (codes "cannot write\n")
failure_lines Memory = Some (codes "out of memory\n")

-- why nothing was made of the file with this name
abbrev pub refused : Bor (List ℕ) → Refusal → Failure
refused name refusal.Memory = Memory
refused name why = Refused (record { name = name; refusal = why })

-- what was made of it, or why nothing was
abbrev pub accepted : {T : Type 0} → Bor (List ℕ) → Result T Refusal → Result T Failure
accepted name (Ok value) = Ok value
accepted name (Err why) = Err (refused name why)
