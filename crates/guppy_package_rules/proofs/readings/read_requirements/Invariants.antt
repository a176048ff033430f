use Rattle.std.proofs.Common.{take}
use Rattle.guppy_package_rules.specs.Readings.{AreRequirementsOf}
use Rattle.guppy_package_rules.proofs.readings.read_requirements.Given as goal

abbrev pub invariant-loop-place : goal.invariant-loop-place
invariant-loop-place l = AreRequirementsOf (take l.place l.links) l.requirements.items
