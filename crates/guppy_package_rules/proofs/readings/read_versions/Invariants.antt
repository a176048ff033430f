use Rattle.std.proofs.Common.{take}
use Rattle.guppy_package_rules.specs.Readings.{AreVersionsOf}
use Rattle.guppy_package_rules.proofs.readings.read_versions.Given as goal

abbrev pub invariant-loop-place : goal.invariant-loop-place
invariant-loop-place l = AreVersionsOf (take l.place l.packages) l.versions.items
