use Rattle.feature_account.proofs.CountFacts.{counts_what_is_on}
use Rattle.feature_account.proofs.laws.accounts_count_what_is_on.Goals as goal

pub returns : goal.returns
returns c = counts_what_is_on
