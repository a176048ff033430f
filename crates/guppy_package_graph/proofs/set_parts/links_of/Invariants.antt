use Rattle.std.proofs.Common.{◌≡◌, All, map, take}
use Rattle.guppy_package_graph.specs.Views.{link_graph_of, number_of}
use Rattle.guppy_package_graph.proofs.set_parts.links_of.Given as goal

abbrev pub invariant-loop-number : goal.invariant-loop-number
invariant-loop-number l = record {
  numbers : map number_of l.links.items ≡ take l.number-index l.numbers;
  graphs : All (λ k. link_graph_of k ≡ l.graph) l.links.items;
}
