use Rattle.std.proofs.Common.{refl}
use Rattle.feature_account.proofs.ClosedSets.{stays_on}
use Rattle.feature_account_rules.proofs.LineFacts.{in_force-with_a_yes}
use Rattle.feature_account.proofs.laws.stays_on_with_a_yes.Goals as goal

pub returns : goal.returns
returns c = λ w choice old new spec f answered others unknowns.
    stays_on w choice choice old new refl (λ g h. h) (in_force-with_a_yes old new spec answered others unknowns) f
