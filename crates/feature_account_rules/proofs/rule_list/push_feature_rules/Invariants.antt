use Rattle.std.proofs.Common.{◌≡◌, ◌++◌, map, take, string_bytes}
use Rattle.std.specs.List.{flat_map}
use Rattle.workspace_record.specs.Entries.{entry_value}
use Rattle.feature_account_rules.specs.RuleList.{rules_of_entry}
use Rattle.feature_account_rules.proofs.rule_list.push_feature_rules.Given as goal

abbrev pub invariant-loop-entry : goal.invariant-loop-entry
invariant-loop-entry l = l.rules.items ≡ l.fn.rules.items ++ flat_map (λ e. rules_of_entry l.index l.table l.owner l.premise (entry_value e)) (map string_bytes (take l.entry-index l.entry-items))
