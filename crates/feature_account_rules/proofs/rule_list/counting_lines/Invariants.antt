use Rattle.std.proofs.Common.{◌≡◌, map, filter, take}
use Rattle.feature_account_rules.specs.Lines.{counts}
use Rattle.feature_account_rules.proofs.rule_list.counting_lines.Given as goal

abbrev pub invariant-loop-line : goal.invariant-loop-line
invariant-loop-line l = map (λ line. line.now) l.counting.items ≡ filter (counts l.index l.table l.link.from) (take l.line-index l.line-items)
