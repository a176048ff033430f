use Rattle.std.proofs.Common.{◌≡◌, All, map, take}
use Rattle.guppy_package_table.specs.Members.{path_at}
use Rattle.guppy_package_table.proofs.orders.with_paths.Given as goal

abbrev pub invariant-loop-place : goal.invariant-loop-place
invariant-loop-place l = record {
  places : map (λ m. m.1) l.members.items ≡ take l.place-index l.places;
  paths : All (λ m. m.0.now ≡ path_at l.table m.1) l.members.items;
}
