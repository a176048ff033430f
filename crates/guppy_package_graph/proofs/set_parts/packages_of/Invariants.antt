use Rattle.std.proofs.Common.{◌≡◌, All, map, take}
use Rattle.guppy_package_graph.specs.Views.{graph_of, place_of}
use Rattle.guppy_package_graph.proofs.set_parts.packages_of.Given as goal

abbrev pub invariant-loop-place : goal.invariant-loop-place
invariant-loop-place l = record {
  places : map place_of l.packages.items ≡ take l.place-index l.places;
  graphs : All (λ m. graph_of m ≡ l.graph) l.packages.items;
}
