use Rattle.std.proofs.lemmas.Bool.Decides.{same_from_decides}
use Rattle.feature_account.specs.Accounts.{concludes}
use Rattle.feature_account.proofs.ClosedSets.{concludes_iff}
use Rattle.feature_account.proofs.laws.accounts_agree.Goals as goal

pub returns : goal.returns
returns c = λ rules a b valid_a valid_b f.
    let iff = concludes_iff rules a valid_a f in
    (same_from_decides (concludes rules a f) (concludes rules b f) iff (concludes_iff rules b valid_b f), iff)
