use Rattle.std.proofs.Common.{◌≡◌, ◌++◌, take}
use Rattle.std.specs.List.{flat_map}
use Rattle.feature_account_rules.specs.RuleList.{feature_rules}
use Rattle.feature_account_rules.proofs.rule_list.push_entry_rules.Given as goal

abbrev pub invariant-loop-feature : goal.invariant-loop-feature
invariant-loop-feature l = l.rules.items ≡ l.fn.rules.items ++ flat_map (feature_rules l.index l.table l.owner) (take l.feature-index l.owner.features)
