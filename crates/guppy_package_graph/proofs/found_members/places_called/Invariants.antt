use Rattle.std.proofs.Common.{◌≡◌, ◌<◌, All, Some, length, map, take}
use Rattle.guppy_package_table.specs.Members.{member_called}
use Rattle.guppy_package_graph.proofs.found_members.places_called.Given as goal

abbrev pub invariant-loop-name : goal.invariant-loop-name
invariant-loop-name l = record {
  found : map (λ name. member_called l.graph name.now) (take l.name-index l.names) ≡ map Some l.places.items;
  within : All (λ v. v < length l.graph.packages) l.places.items;
}
