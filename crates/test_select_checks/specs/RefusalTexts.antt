-- What a refused selection prints.
use Rattle.std.specs.Prelude.{◌++◌, [], codes, decimal, string_bytes}
use Rattle.workspace_record.specs.Records.{Text}
use Rattle.nextest_binaries.specs.Faults.{fault_text as listing_fault_text}
use Rattle.test_select_checks.specs.ErrorTexts.{error_text}
use Rattle.test_select_checks.specs.FaultLines.{fault_lines}
use Rattle.test_select_checks.specs.declared.record_error.RecordError.{RecordError}
use Rattle.test_select_checks.specs.declared.record_error.RecordError.TheVariants as refused
use Rattle.test_select_checks.specs.declared.select_error.SelectError.{SelectError}
use Rattle.test_select_checks.specs.declared.select_error.SelectError.TheVariants.{Record, UnknownExtra, Filter, Lister, BadListing, Memory}

-- why a record is refused, on each line behind the word that says so
abbrev pub record_text : RecordError → Text
record_text (refused.Broken rule place) = codes "record: " ++ error_text (refused.Broken rule place)
record_text (refused.Filter place errors) = fault_lines (codes "record: ") place errors.items
record_text refused.Memory = codes "record: " ++ error_text refused.Memory

-- why a selection is refused
abbrev pub refusal_text : SelectError → Text
refusal_text (Record e) = record_text e
refusal_text (UnknownExtra place) = codes "choice: unknown extra " ++ decimal place
refusal_text (Filter place errors) = fault_lines [] place errors.items
refusal_text (Lister id) = codes "lister: " ++ string_bytes id
refusal_text (BadListing id fault) = codes "listing of " ++ (string_bytes id ++ (codes ": " ++ listing_fault_text fault))
refusal_text Memory = codes "out of memory"
