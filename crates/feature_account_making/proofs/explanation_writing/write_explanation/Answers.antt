use Rattle.feature_account_making.proofs.WritingFacts.{nothing_written}
use Rattle.feature_account_making.specs.ExplanationText.{explanation_text}
use Rattle.feature_account_making.proofs.explanation_writing.write_explanation.Goals as goal

pub returns-in-Err-clause-writes : goal.returns-in-Err-clause-writes
returns-in-Err-clause-writes g c = nothing_written (g.W.Write.contents c.args.writer.now) (explanation_text c.args.feature.now c.args.explanation.now)
