use Rattle.guppy_package_graph.specs.SetEquality.{same_ids_decide}
use Rattle.guppy_package_graph.proofs.laws.sets_are_told_by_ids.Goals as goal

pub returns : goal.returns
returns c = record { told = same_ids_decide }
