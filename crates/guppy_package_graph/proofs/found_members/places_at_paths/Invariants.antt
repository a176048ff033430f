use Rattle.std.proofs.Common.{◌≡◌, ◌<◌, All, Some, length, map, take}
use Rattle.guppy_package_table.specs.Members.{member_at_path}
use Rattle.guppy_package_graph.proofs.found_members.places_at_paths.Given as goal

abbrev pub invariant-loop-path : goal.invariant-loop-path
invariant-loop-path l = record {
  found : map (λ path. member_at_path l.graph path.now) (take l.path-index l.paths) ≡ map Some l.places.items;
  within : All (λ v. v < length l.graph.packages) l.places.items;
}
