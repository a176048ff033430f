use Rattle.std.proofs.Common.{◌≡◌, ◌++◌, take}
use Rattle.std.specs.List.{flat_map}
use Rattle.feature_account_rules.specs.RuleList.{base_rules}
use Rattle.feature_account_rules.proofs.rule_list.push_packages_base_rules.Given as goal

abbrev pub invariant-loop-owner : goal.invariant-loop-owner
invariant-loop-owner l = l.rules.items ≡ l.fn.rules.items ++ flat_map base_rules (take l.owner-index l.packages)
