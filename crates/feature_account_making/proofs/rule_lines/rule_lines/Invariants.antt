use Rattle.std.proofs.Common.{◌≡◌, ◌++◌, drop, map, string_bytes}
use Rattle.feature_account_making.specs.RuleLines.{rule_lines}
use Rattle.feature_account_making.specs.SourceViews.{sourced_view}
use Rattle.feature_account_making.proofs.rule_lines.rule_lines.Given as goal

abbrev pub invariant-loop-number : goal.invariant-loop-number
invariant-loop-number l = rule_lines 0 (map sourced_view l.rules) ≡ string_bytes l.text ++ rule_lines l.number (map sourced_view (drop l.number l.rules))
