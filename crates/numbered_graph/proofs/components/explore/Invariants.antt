use Rattle.std.proofs.Common.{◌<◌, get_or}
use Rattle.numbered_graph.specs.Sets.{has}
use Rattle.numbered_graph.specs.Searches.{lists_of, work_left, KeepsPlaced, Searches}
use Rattle.numbered_graph.proofs.components.explore.Given as goal

abbrev pub invariant-loop-search : goal.invariant-loop-search
invariant-loop-search l = record {
  searches : Searches l.graph.links (has l.passes) l.graph.nodes (lists_of l.search);
  kept : KeepsPlaced (lists_of l.fn.search) (lists_of l.search);
  placed : 0 < get_or l.search.places.items l.root 0;
}

abbrev pub decreases-loop-search : goal.decreases-loop-search
decreases-loop-search l = work_left l.graph.links (lists_of l.search)
