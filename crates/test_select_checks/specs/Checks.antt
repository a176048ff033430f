-- What a check of a record answers.
use Rattle.std.specs.Prelude.{◌≡◌, Some, None, Result, Ok, Err}
use Rattle.workspace_record.specs.Records.{Workspace}
use Rattle.test_select_rules.specs.RecordRules.{fault_of}
use Rattle.test_select_checks.specs.RecordFilters.{HasAcceptedFilters, RefusesFilter}
use Rattle.test_select_checks.specs.declared.record_error.RecordError.{RecordError}
use Rattle.test_select_checks.specs.declared.record_error.RecordError.TheVariants.{Broken, Filter, Memory}

-- a check answers nothing where the rules are kept and the filters accepted; else the first broken rule, or the first refused filter
abbrev pub IsChecked : Workspace → Result (Unit {0}) RecordError → Type 0
IsChecked w (Ok _) = (fault_of w ≡ None) × HasAcceptedFilters w
IsChecked w (Err (Broken rule place)) = fault_of w ≡ Some (rule, place)
IsChecked w (Err (Filter place errors)) = (fault_of w ≡ None) × RefusesFilter w place errors
IsChecked w (Err Memory) = Unit {0}

-- the record that was tested, where the rules are kept and the filters accepted; else why it is refused
abbrev pub ChecksRecord : Workspace → Result Workspace RecordError → Type 0
ChecksRecord w (Ok checked) = (checked ≡ w) × IsChecked w (Ok tt)
ChecksRecord w (Err e) = IsChecked w (Err e)
