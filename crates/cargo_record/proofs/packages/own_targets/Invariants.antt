use Rattle.std.proofs.Common.{◌≡◌, filter, take}
use Rattle.cargo_record.specs.Kept.{requires_own}
use Rattle.cargo_record.proofs.packages.own_targets.Given as goal

abbrev pub invariant-loop-target : goal.invariant-loop-target
invariant-loop-target l = l.own.items ≡ filter (requires_own l.features) (take l.target-index l.targets)
