use Rattle.feature_account_making.specs.AccountText.{account_text}
use Rattle.feature_account_making.proofs.WritingFacts.{nothing_written}
use Rattle.feature_account_making.proofs.account_writing.write_account.Goals as goal

pub returns-in-Err-clause-writes : goal.returns-in-Err-clause-writes
returns-in-Err-clause-writes g c = nothing_written (g.W.Write.contents c.args.writer.now) (account_text c.args.account.now)
