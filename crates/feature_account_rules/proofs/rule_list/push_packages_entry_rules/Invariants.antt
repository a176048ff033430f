use Rattle.std.proofs.Common.{◌≡◌, ◌++◌, take}
use Rattle.std.specs.List.{flat_map}
use Rattle.feature_account_rules.specs.RuleList.{entry_rules}
use Rattle.feature_account_rules.proofs.rule_list.push_packages_entry_rules.Given as goal

abbrev pub invariant-loop-owner : goal.invariant-loop-owner
invariant-loop-owner l = l.rules.items ≡ l.fn.rules.items ++ flat_map (entry_rules l.index l.table) (take l.owner-index l.packages)
