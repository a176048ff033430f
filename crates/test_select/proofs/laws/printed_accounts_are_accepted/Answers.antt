use Rattle.test_select.proofs.AccountLawFacts.{printed_accounts_are_accepted}
use Rattle.test_select.proofs.laws.printed_accounts_are_accepted.Goals as goal

pub returns : goal.returns
returns c = record { accepted = printed_accounts_are_accepted }
