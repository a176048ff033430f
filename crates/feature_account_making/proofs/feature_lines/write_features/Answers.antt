use Rattle.std.proofs.Common.{flat_map}
use Rattle.feature_account_making.proofs.WritingFacts.{nothing_written}
use Rattle.feature_account_making.specs.FeatureLines.{feature_line}
use Rattle.feature_account_making.proofs.feature_lines.write_features.Goals as goal

pub returns-in-Err-clause-writes : goal.returns-in-Err-clause-writes
returns-in-Err-clause-writes g c = nothing_written (g.W.Write.contents c.args.writer.now) (flat_map feature_line c.args.features.now)
