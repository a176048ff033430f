use Rattle.std.proofs.Common.{◌≡◌, map, take}
use Rattle.guppy_feature_nodes.specs.EdgeViews.{edge_view}
use Rattle.guppy_feature_nodes.specs.Offering.{offer_edges}
use Rattle.guppy_feature_nodes.proofs.offers.offer_edges.Given as goal

abbrev pub invariant-loop-edge : goal.invariant-loop-edge
invariant-loop-edge l = l.offers.items ≡ offer_edges l.direction l.nodes l.links (map edge_view (take l.edge-index l.edges))
