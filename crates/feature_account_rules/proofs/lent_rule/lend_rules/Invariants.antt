use Rattle.std.proofs.Common.{◌≡◌, take}
use Rattle.feature_account_rules.proofs.lent_rule.lend_rules.Given as goal

abbrev pub invariant-loop-rule : goal.invariant-loop-rule
invariant-loop-rule l = l.lent.items ≡ take l.rule-index l.rules
