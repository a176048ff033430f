use Rattle.std.proofs.Common.{All, take}
use Rattle.guppy_package_parts.specs.BuildTargetViews.{id_view}
use Rattle.guppy_package_table.specs.Targets.{HasId}
use Rattle.guppy_package_table.proofs.package_details.target_with.Given as goal

abbrev pub invariant-loop-target : goal.invariant-loop-target
invariant-loop-target l = All (λ t. ¬ HasId (id_view l.id) t) (take l.target-index l.targets)
