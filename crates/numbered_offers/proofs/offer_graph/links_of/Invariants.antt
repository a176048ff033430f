use Rattle.std.proofs.Common.{◌≡◌, ◌++◌, take}
use Rattle.numbered_offers.specs.Edges.{edge_links}
use Rattle.numbered_offers.specs.Graphs.{dep_links}
use Rattle.numbered_offers.proofs.offer_graph.links_of.Given as goal

abbrev pub invariant-loop-edge : goal.invariant-loop-edge
invariant-loop-edge l = l.links.items ≡ edge_links (take l.edge-index l.edges)

abbrev pub invariant-loop-number : goal.invariant-loop-number
invariant-loop-number l = l.links.items ≡ edge_links l.edges ++ dep_links l.edges (take l.number-index l.halves)
