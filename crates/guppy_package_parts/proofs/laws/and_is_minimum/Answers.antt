use Rattle.guppy_package_parts.proofs.TernaryFacts.{lesser-rank}
use Rattle.guppy_package_parts.proofs.laws.and_is_minimum.Goals as goal

pub returns : goal.returns
returns c = lesser-rank
