-- The statuses of a run that fails, and the lines that tell of it.
use Rattle.std.specs.Prelude.{ℕ, Bool, true, false, ◌++◌, [], Option, Some, None, codes}
use Rattle.workspace_record.specs.Records.{Text}
use Rattle.record_files.specs.Faults.{fault_of, fault_text}
use Rattle.record_files.specs.declared.error.ReadError.{ReadError}
use Rattle.record_files.specs.declared.field.Field.{Field}
use Rattle.record_files.specs.declared.error.ReadError.TheVariants as read
use Rattle.test_select_files.specs.declared.run_failure.RunFailure.{RunFailure}
use Rattle.test_select_files.specs.declared.run_failure.RunFailure.TheVariants.{CommandLine, CannotRead, BadFile, Denied, CannotWrite, Memory}

-- the status with which the program ends: 2 for a bad command line, and else 1
abbrev pub status_of : RunFailure → ℕ
status_of (CommandLine error) = 2
status_of (CannotRead name) = 1
status_of (BadFile name error) = 1
status_of Denied = 1
status_of CannotWrite = 1
status_of Memory = 1

-- what was asked is denied, as the output says
abbrev pub is_denial : RunFailure → Bool
is_denial (CommandLine error) = false
is_denial (CannotRead name) = false
is_denial (BadFile name error) = false
is_denial Denied = true
is_denial CannotWrite = false
is_denial Memory = false

-- what is said of a file whose shape is wrong
abbrev pub bad_shape_line : Text → Field → Text
bad_shape_line name field = name ++ (codes ": bad shape at " ++ (fault_text (fault_of field) ++ codes "\n"))

-- what is said of a file that was read and is refused
abbrev pub bad_file_lines : Text → ReadError → Text
bad_file_lines name read.BadJson = name ++ codes ": bad JSON\n"
bad_file_lines name (read.BadShape field) = bad_shape_line name field
bad_file_lines name read.Memory = codes "out of memory\n"

-- the lines that tell of a failure; of a bad command line `clap` tells, and of what is denied the output
abbrev pub failure_lines : RunFailure → Option Text
failure_lines (CommandLine error) = None
failure_lines (CannotRead name) = Some (codes "cannot read " ++ (name.now ++ codes "\n"))
failure_lines (BadFile name error) = Some (bad_file_lines name.now error)
failure_lines Denied = Some []
failure_lines CannotWrite = Some (codes "cannot write\n")
failure_lines Memory = Some (codes "out of memory\n")
