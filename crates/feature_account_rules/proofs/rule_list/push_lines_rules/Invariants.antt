use Rattle.std.proofs.Common.{◌≡◌, ◌++◌, map, take}
use Rattle.std.specs.List.{flat_map}
use Rattle.feature_account_rules.specs.RuleList.{line_rules}
use Rattle.feature_account_rules.proofs.rule_list.push_lines_rules.Given as goal

abbrev pub invariant-loop-line : goal.invariant-loop-line
invariant-loop-line l = l.rules.items ≡ l.fn.rules.items ++ flat_map (line_rules l.index l.link) (map (λ k. k.now) (take l.line-index l.lines))
