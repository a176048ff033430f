use Rattle.feature_account_making.proofs.WrittenLines.{account_reads_back}
use Rattle.feature_account_making.proofs.laws.accounts_read_back.Goals as goal

pub returns : goal.returns
returns c = record { reads = account_reads_back }
