use Rattle.guppy_package_parts.proofs.TernaryFacts.{greater-rank}
use Rattle.guppy_package_parts.proofs.laws.or_is_maximum.Goals as goal

pub returns : goal.returns
returns c = greater-rank
