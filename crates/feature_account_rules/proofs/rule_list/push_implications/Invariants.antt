use Rattle.std.proofs.Common.{◌≡◌, ◌++◌, map}
use Rattle.feature_account_rules.specs.RuleList.{implies}
use Rattle.feature_account_rules.proofs.rule_list.push_implications.Given as goal

abbrev pub invariant-loop-conclusion : goal.invariant-loop-conclusion
invariant-loop-conclusion l = l.rules.items ≡ l.fn.rules.items ++ map (implies l.premise) l.yielded
