use Rattle.std.proofs.Common.{[]}
use Rattle.feature_account_making.proofs.LowestFacts.{lowest_after_agree}
use Rattle.feature_account_making.proofs.laws.lowest_accounts_agree.Goals as goal

pub returns : goal.returns
returns c = λ rules a b low_a low_b.
    lowest_after_agree rules [] a b low_a.lowest low_b.lowest low_a.valid.closed low_b.valid.closed
