use Rattle.std.proofs.Common.{◌≡◌, ◌++◌, map, take}
use Rattle.feature_account_rules.specs.RuleList.{named_of}
use Rattle.feature_account_rules.proofs.rule_list.push_strong_targets.Given as goal

abbrev pub invariant-loop-line : goal.invariant-loop-line
invariant-loop-line l = l.features.items ≡ l.fn.features.items ++ map (λ _. named_of l.link.to l.entry.feature.now) (map (λ k. k.now) (take l._line-index l._line-items))
