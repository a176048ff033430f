use Rattle.std.proofs.Common.{map}
use Rattle.feature_account_making.proofs.WritingFacts.{nothing_written}
use Rattle.feature_account_making.specs.RuleLines.{rule_lines}
use Rattle.feature_account_making.specs.SourceViews.{sourced_view}
use Rattle.feature_account_making.proofs.rule_lines.write_rules.Goals as goal

pub returns-in-Err-clause-writes : goal.returns-in-Err-clause-writes
returns-in-Err-clause-writes g c = nothing_written (g.W.Write.contents c.args.writer.now) (rule_lines 0 (map sourced_view c.args.rules.now))
