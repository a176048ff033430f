use Rattle.std.proofs.Common.{◌≡◌, ap, length, refl, ◌∙◌}
use Rattle.guppy_feature_nodes.specs.GraphEdges.{edge_ends}
use Rattle.guppy_feature_nodes.specs.Graphs.{FeatureGraphValue}
use Rattle.guppy_package_graph.specs.Directions.{direction_of}
use Rattle.guppy_feature_graph.specs.Sets.{SetValue}
use Rattle.guppy_feature_graph.specs.Views.{feature_graph_of}
use Rattle.guppy_feature_graph.proofs.ResolveFacts.{reach_of}
use Rattle.guppy_feature_graph.proofs.SetFacts.{ok_is}
use Rattle.guppy_feature_graph.proofs.resolves.reached_from.Goals as goal

pub returns : goal.returns
returns c =
    let q = c.args.query.now in
    let g = q.graph in
    let edges : c.edge_graph-edges.result.now ≡ record { nodes = length g.nodes; links = edge_ends g.edges } = c.edge_graph-edges.ensures.graph ∙ ap (λ (x : FeatureGraphValue). record { nodes = length x.nodes; links = edge_ends x.edges }) (c.built.ensures ∙ c.graph.ensures.graph) in
    let found : SetValue = record { graph = feature_graph_of c.graph-2.result.now; included = c.in_ok-reached.reached } in
    ok_is _ found c.found.result c.found.ensures (reach_of q c.edge_graph-edges.result.now c.direction_of-direction.result c.starts.result.now c.in_ok-reached.reached found edges (c.direction_of-direction.ensures ∙ ap direction_of c.direction.ensures.direction) c.starts.ensures.value c.graph-2.ensures.graph refl c.in_ok-reached.ensures.reached)
