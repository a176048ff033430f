-- Why a run ends early, by what a file answered or what was read of it.
use Rattle.std.specs.Prelude.{ℕ, List, Result, Ok, Err}
use Rattle.std.specs.Borrow.{Bor}
use Rattle.record_files.specs.declared.error.ReadError.{ReadError}
use Rattle.record_files.specs.declared.error.ReadError.TheVariants as read
use Rattle.test_select_files.specs.declared.file_source.FileFault.{FileFault}
use Rattle.test_select_files.specs.declared.file_source.FileFault.TheVariants as fault
use Rattle.test_select_files.specs.declared.run_failure.RunFailure.{RunFailure}
use Rattle.test_select_files.specs.declared.run_failure.RunFailure.TheVariants.{CannotRead, BadFile, Memory}

-- why a file with this name was not read
abbrev pub unread : Bor (List ℕ) → FileFault → RunFailure
unread name fault.CannotRead = CannotRead name
unread name fault.Memory = Memory

-- why it was refused
abbrev pub refused : Bor (List ℕ) → ReadError → RunFailure
refused name read.Memory = Memory
refused name read.BadJson = BadFile name read.BadJson
refused name (read.BadShape field) = BadFile name (read.BadShape field)

-- what was read of it, or why it was refused
abbrev pub accepted : {T : Type 0} → Bor (List ℕ) → Result T ReadError → Result T RunFailure
accepted name (Ok value) = Ok value
accepted name (Err error) = Err (refused name error)
