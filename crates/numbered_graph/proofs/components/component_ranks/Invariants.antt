use Rattle.std.proofs.Common.{◌≡◌, ℕ, ◌<◌, [], get_or}
use Rattle.numbered_graph.specs.Sets.{has}
use Rattle.numbered_graph.specs.Searches.{lists_of, Searches}
use Rattle.numbered_graph.proofs.components.component_ranks.Given as goal

abbrev pub invariant-loop-root : goal.invariant-loop-root
invariant-loop-root l = record {
  searches : Searches l.graph.links (has l.passes) l.graph.nodes (lists_of l.search);
  idle : l.search.starts.items ≡ [];
  placed : (v : ℕ) → v < l.root → 0 < get_or l.search.places.items v 0;
}
