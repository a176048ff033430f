use Rattle.std.proofs.Common.{◌≡◌, All, map}
use Rattle.guppy_feature_nodes.specs.JoinedViews.{joined_view}
use Rattle.guppy_feature_nodes.specs.EdgeViews.{edge_view}
use Rattle.guppy_feature_nodes.specs.GraphEdges.{edge_value}
use Rattle.guppy_feature_nodes.specs.EdgeLinkViews.{AreEdgeLinks}
use Rattle.guppy_feature_nodes.proofs.node_edge.node_edges.Given as goal

abbrev pub invariant-loop-edge : goal.invariant-loop-edge
invariant-loop-edge l = record {
  values : map edge_view l.edges.items ≡ map (edge_value l.nodes) (map joined_view l.yielded);
  lines : All (λ e. AreEdgeLinks l.links (edge_view e).lines e.links) l.edges.items;
}
