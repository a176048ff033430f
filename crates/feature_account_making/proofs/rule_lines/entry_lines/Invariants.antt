use Rattle.std.proofs.Common.{◌≡◌, flat_map, map, string_bytes, take}
use Rattle.feature_account_making.specs.RuleLines.{entry_line}
use Rattle.feature_account_making.specs.SourceViews.{sourced_view}
use Rattle.feature_account_making.proofs.rule_lines.entry_lines.Given as goal

abbrev pub invariant-loop-number : goal.invariant-loop-number
invariant-loop-number l = string_bytes l.text ≡ flat_map (entry_line (map sourced_view l.rules)) (take l.number-index l.entries)
