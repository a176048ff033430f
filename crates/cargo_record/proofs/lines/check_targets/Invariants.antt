use Rattle.std.proofs.Common.{◌≡◌, take, true}
use Rattle.std.specs.List.{list_all}
use Rattle.cargo_record.specs.Kept.{requires_own}
use Rattle.cargo_record.proofs.lines.check_targets.Given as goal

abbrev pub invariant-loop-target : goal.invariant-loop-target
invariant-loop-target l =
    list_all (requires_own l.«package».row.features) (take l.target-index l.«package».row.targets) ≡ true
