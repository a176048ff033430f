use Rattle.std.proofs.Common.{[], map, refl, string_bytes}
use Rattle.feature_account_making.specs.RuleLines.{entry_line}
use Rattle.feature_account_making.specs.SourceViews.{sourced_view}
use Rattle.list_facts.proofs.Lists.{flat_more}
use Rattle.feature_account_making.proofs.rule_lines.entry_lines.Goals as goal

pub loop-number-preserved : goal.loop-number-preserved
loop-number-preserved c =
    flat_more (entry_line (map sourced_view c.args.rules.now)) [] (string_bytes c.loop-number.text) (string_bytes c.push_entry.new.text) _ c.args.entries.now c.loop-number.number-index 0 c.loop-number-test.true refl c.in_ok-push_entry.ensures c.loop-number.invariant
