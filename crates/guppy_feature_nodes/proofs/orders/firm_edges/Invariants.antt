use Rattle.std.proofs.Common.{◌≡◌, map, take}
use Rattle.guppy_feature_nodes.specs.EdgeViews.{edge_view}
use Rattle.guppy_feature_nodes.specs.Orders.{firm_edges}
use Rattle.guppy_feature_nodes.proofs.orders.firm_edges.Given as goal

abbrev pub invariant-loop-edge : goal.invariant-loop-edge
invariant-loop-edge l = l.flags.items ≡ firm_edges l.links (map edge_view (take l.edge-index l.edges))
