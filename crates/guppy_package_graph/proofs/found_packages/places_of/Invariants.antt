use Rattle.std.proofs.Common.{◌≡◌, ◌<◌, All, Some, length, map, position, take}
use Rattle.std.specs.Str.{bytes_eq}
use Rattle.guppy_package_table.specs.Tables.{ids_of}
use Rattle.guppy_package_graph.proofs.found_packages.places_of.Given as goal

abbrev pub invariant-loop-package_id : goal.invariant-loop-package_id
invariant-loop-package_id l = record {
  found : map (λ id. position (bytes_eq id.now) (ids_of l.graph.packages)) (take l.package_id-index l.package_ids) ≡ map Some l.places.items;
  within : All (λ v. v < length l.graph.packages) l.places.items;
}
