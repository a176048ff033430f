use Rattle.std.proofs.Common.{◌≡◌, map, take}
use Rattle.guppy_package_table.proofs.package_ids.ids_of.Given as goal

abbrev pub invariant-loop-row : goal.invariant-loop-row
invariant-loop-row l = l.ids.keys ≡ map (λ p. p.id) (take l.row-index l.packages)
