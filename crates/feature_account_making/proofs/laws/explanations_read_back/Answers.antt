use Rattle.feature_account_making.proofs.WrittenLines.{explanation_reads_back}
use Rattle.feature_account_making.proofs.laws.explanations_read_back.Goals as goal

pub returns : goal.returns
returns c = record { reads = explanation_reads_back }
