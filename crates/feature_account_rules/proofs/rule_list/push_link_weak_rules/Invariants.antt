use Rattle.std.proofs.Common.{◌≡◌, ◌++◌, map, take}
use Rattle.feature_account_rules.specs.RuleList.{weak_rule}
use Rattle.feature_account_rules.proofs.rule_list.push_link_weak_rules.Given as goal

abbrev pub invariant-loop-line : goal.invariant-loop-line
invariant-loop-line l = l.rules.items ≡ l.fn.rules.items ++ map (weak_rule l.premise l.entry.row.now l.entry.name.now l.target) (map (λ line. line.now) (take l.line-index l.line-items))
