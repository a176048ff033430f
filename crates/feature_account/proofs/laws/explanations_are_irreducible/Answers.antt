use Rattle.feature_account.proofs.Irreducible.{irreducible}
use Rattle.feature_account.proofs.laws.explanations_are_irreducible.Goals as goal

pub returns : goal.returns
returns c = irreducible
