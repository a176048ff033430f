use Rattle.std.proofs.Common.{◌≡◌, ◌∙◌, ◌↔◌, IsTrue, ap, length, subst}
use Rattle.numbered_graph.specs.Graphs.{GraphValue}
use Rattle.numbered_graph.specs.Paths.{Reaches, any_link}
use Rattle.guppy_feature_nodes.specs.GraphEdges.{edge_ends}
use Rattle.guppy_feature_nodes.specs.Graphs.{FeatureGraphValue}
use Rattle.guppy_feature_graph.specs.Views.{feature_graph_of}
use Rattle.guppy_feature_graph.proofs.feature_graph.FeatureGraph.depends_on.Goals as goal

pub returns-in_ok-leads-in-Ok : goal.returns-in_ok-leads-in-Ok
returns-in_ok-leads-in-Ok c =
    let g = feature_graph_of c.args.self.now in
    let graph : c.edge_graph.result.now ≡ record { nodes = length g.nodes; links = edge_ends g.edges } = c.edge_graph.ensures.graph ∙ ap (λ (x : FeatureGraphValue). record { nodes = length x.nodes; links = edge_ends x.edges }) c.built.ensures in
    record {
      answer = record {
        from = c.in-Ok.from;
        to = c.in-Ok.to;
        is_from = c.in-Ok.ensures.0;
        is_to = c.in-Ok.ensures.1;
        says = subst (λ (x : GraphValue). IsTrue c.in_ok-leads-in-Ok.leads ↔ Reaches x.links any_link c.in-Ok.from c.in-Ok.to) graph c.in_ok-leads-in-Ok.ensures.leads;
      };
    }
