use Rattle.guppy_package_parts.proofs.EachOnce.{each_once_ascends}
use Rattle.guppy_package_parts.proofs.laws.names_ascend.Goals as goal

pub returns : goal.returns
returns c = each_once_ascends
