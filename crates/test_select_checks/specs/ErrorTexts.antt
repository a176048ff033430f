-- What errors of records print.
use Rattle.std.specs.Prelude.{[], ◌++◌, codes, decimal}
use Rattle.workspace_record.specs.Records.{Text}
use Rattle.guppy_package_rules.specs.RuleTexts.{rule_text}
use Rattle.test_select_checks.specs.FaultLines.{fault_lines}
use Rattle.test_select_checks.specs.declared.record_error.RecordError.{RecordError}
use Rattle.test_select_checks.specs.declared.record_error.RecordError.TheVariants.{Broken, Filter, Memory}

-- a broken rule with its place, or a line for each fault of a filter
abbrev pub error_text : RecordError → Text
error_text (Broken rule place) = codes "rule " ++ (rule_text rule ++ (codes " at " ++ decimal place))
error_text (Filter place errors) = fault_lines [] place errors.items
error_text Memory = codes "out of memory"
