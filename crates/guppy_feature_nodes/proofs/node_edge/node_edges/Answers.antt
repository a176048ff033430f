use Rattle.std.proofs.Common.{All, subst, sym}
use Rattle.std.proofs.lemmas.List.Elements.{All-push}
use Rattle.guppy_feature_nodes.specs.JoinedViews.{joined_view}
use Rattle.guppy_feature_nodes.specs.EdgeViews.{edge_view}
use Rattle.guppy_feature_nodes.specs.GraphEdges.{edge_value}
use Rattle.guppy_feature_nodes.specs.EdgeLinkViews.{AreEdgeLinks}
use Rattle.guppy_feature_nodes.specs.declared.node_edge.NodeEdge.{NodeEdge}
use Rattle.guppy_feature_nodes.proofs.GraphFacts.{values_more}
use Rattle.guppy_feature_nodes.proofs.node_edge.node_edges.Goals as goal

pub loop-edge-preserved : goal.loop-edge-preserved
loop-edge-preserved c =
    let P = λ (e : NodeEdge). AreEdgeLinks c.args.links.now (edge_view e).lines e.links in
    record {
      values = values_more edge_view (edge_value c.args.nodes.now) joined_view c.loop-edge.edges.items c.push.new.self.items c.in_ok-node_edge.field-0 c.loop-edge.yielded c.in-Some.edge c.loop-edge.invariant.values c.in_ok-node_edge.ensures.value c.in_ok-push.ensures.items;
      lines = subst (All P) (sym c.in_ok-push.ensures.items) (All-push P c.loop-edge.edges.items c.in_ok-node_edge.field-0 c.loop-edge.invariant.lines c.in_ok-node_edge.ensures.lines);
    }
