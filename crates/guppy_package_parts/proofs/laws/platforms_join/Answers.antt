use Rattle.guppy_package_parts.proofs.TernaryFacts.{status_of-join}
use Rattle.guppy_package_parts.proofs.laws.platforms_join.Goals as goal

pub returns : goal.returns
returns c = status_of-join
