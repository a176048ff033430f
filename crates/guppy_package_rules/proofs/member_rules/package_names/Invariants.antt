use Rattle.std.proofs.Common.{take}
use Rattle.guppy_package_rules.specs.Found.{HoldsNames}
use Rattle.guppy_package_rules.proofs.member_rules.package_names.Given as goal

abbrev pub invariant-loop-row : goal.invariant-loop-row
invariant-loop-row l = HoldsNames l.names (take l.row-index l.packages)
