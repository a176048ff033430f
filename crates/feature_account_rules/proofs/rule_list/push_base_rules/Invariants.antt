use Rattle.std.proofs.Common.{◌≡◌, ◌++◌, map}
use Rattle.feature_account_rules.specs.RuleList.{implies, base_of}
use Rattle.feature_account_rules.proofs.rule_list.push_base_rules.Given as goal

abbrev pub invariant-loop-feature : goal.invariant-loop-feature
invariant-loop-feature l = l.rules.items ≡ l.fn.rules.items ++ map (λ f. implies f (base_of l.row.id)) l.yielded
