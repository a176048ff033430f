use Rattle.std.proofs.Common.{refl}
use Rattle.feature_account.proofs.ClosedSets.{stays_on}
use Rattle.feature_account_rules.proofs.LineFacts.{in_force-with_unknowns}
use Rattle.feature_account.proofs.laws.stays_on_when_unknowns_count.Goals as goal

pub returns : goal.returns
returns c = λ w choice old new f answers counted.
    stays_on w choice choice old new refl (λ g h. h) (in_force-with_unknowns old new answers counted) f
