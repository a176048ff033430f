use Rattle.std.proofs.Common.{◌≡◌, map, take}
use Rattle.guppy_feature_nodes.specs.EdgeViews.{edge_view}
use Rattle.guppy_feature_nodes.specs.GraphEdges.{edge_ends}
use Rattle.guppy_feature_nodes.proofs.orders.ends_of.Given as goal

abbrev pub invariant-loop-edge : goal.invariant-loop-edge
invariant-loop-edge l = l.ends.items ≡ edge_ends (map edge_view (take l.edge-index l.edges))
