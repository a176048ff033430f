use Rattle.std.proofs.Common.{◌≡◌, map, take}
use Rattle.guppy_package_table.specs.Tables.{id_at}
use Rattle.guppy_package_graph.proofs.set_parts.ids_at.Given as goal

abbrev pub invariant-loop-place : goal.invariant-loop-place
invariant-loop-place l = map (λ id. id.now) l.ids.items ≡ map (id_at l.graph) (take l.place-index l.places)
