-- The statuses of a run that fails, the lines that tell of it, and what a failure to write comes to.
use Rattle.std.specs.Prelude.{ℕ, Bool, false, ◌++◌, Option, Some, codes, string_bytes}
use Rattle.feature_account_making.specs.declared.write_account_error.WriteAccountError.{WriteAccountError}
use Rattle.feature_account_making.specs.declared.write_account_error.WriteAccountError.TheVariants as written
use Rattle.workspace_record.specs.Records.{Text}
use Rattle.nextest_filter_matchers.specs.Faults.{fault_text}
use Rattle.test_select_checks.specs.RefusalTexts.{refusal_text}
use Rattle.test_select_files.specs.Failures as files
use Rattle.test_select_files.specs.declared.run_failure.RunFailure.{RunFailure}
use Rattle.test_select_files.specs.declared.run_failure.RunFailure.TheVariants.{CannotWrite, Memory}
use Rattle.test_select.specs.declared.failure.Failure.{Failure}
use Rattle.test_select.specs.declared.failure.Failure.TheVariants.{BadPartition, BadGlob, NotBelow, NotText, Refused, Run}

-- the status with which the program ends: 1 where a question is refused, 2 where the command line names no part, and else that of any program over these files
abbrev pub status_of : Failure → ℕ
status_of (Run failure) = files.status_of failure
status_of (Refused error) = 1
status_of (BadPartition text) = 2
status_of (NotText name) = 1
status_of (BadGlob text error) = 1
status_of (NotBelow path) = 1

-- what was asked is denied, as the output says
abbrev pub is_denial : Failure → Bool
is_denial (Run failure) = files.is_denial failure
is_denial (Refused error) = false
is_denial (BadPartition text) = false
is_denial (NotText name) = false
is_denial (BadGlob text error) = false
is_denial (NotBelow path) = false

-- what is told of a part that the command line does not name, as `clap` tells of a value that it does not take
abbrev pub bad_partition_lines : Text → Text
bad_partition_lines text =
    codes "error: invalid value '" ++ (text ++ codes "' for '--partition <count:M/N>': expected M from 1 to N\n\nFor more information, try '--help'.\n")

-- the lines that tell of a failure
abbrev pub failure_lines : Failure → Option Text
failure_lines (Run failure) = files.failure_lines failure
failure_lines (Refused error) = Some (refusal_text error ++ codes "\n")
failure_lines (BadPartition text) = Some (bad_partition_lines text.now)
failure_lines (NotText name) = Some (name.now ++ codes ": not UTF-8\n")
failure_lines (BadGlob text error) = Some (codes "ignore " ++ (text.now ++ (codes ": " ++ (fault_text error ++ codes "\n"))))
failure_lines (NotBelow path) = Some (codes "path " ++ (string_bytes path ++ codes ": not below the workspace's root\n"))

-- why a text was not written whole: memory ran out before anything was, or the output takes no more
abbrev pub unwritten : WriteAccountError → RunFailure
unwritten written.Memory = Memory
unwritten (written.Write fault) = CannotWrite
