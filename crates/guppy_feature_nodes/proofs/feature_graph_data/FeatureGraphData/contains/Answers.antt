use Rattle.std.proofs.Common.{◌≡◌, ◌∙◌, ap, sym}
use Rattle.std.specs.List.{list_any}
use Rattle.guppy_feature_demands.specs.NameViews.{name_view}
use Rattle.guppy_feature_demands.specs.Nodes.{is_node}
use Rattle.guppy_package_table.specs.Tables.{ids_of}
use Rattle.guppy_feature_nodes.specs.Graphs.{FeatureGraphValue}
use Rattle.guppy_feature_nodes.specs.NodeNames.{NodeValue, lent_view, node_eq, node_of}
use Rattle.guppy_feature_nodes.proofs.NameFacts.{any_by}
use Rattle.guppy_feature_nodes.proofs.feature_graph_data.FeatureGraphData.contains.Goals as goal

pub returns : goal.returns
returns c =
    let g = c.self.inside in
    let f = name_view c.args.feature in
    let node : lent_view c.lent_node.result ≡ node_of (ids_of g.graph.now.packages) f = c.lent_node.ensures ∙ ap (λ (x : FeatureGraphValue). node_of (ids_of x.rows.packages) f) (sym c.self.view_is) in
    record { answer = c.contains.ensures ∙ ap (λ (n : NodeValue). list_any (node_eq n) g.names.keys) node ∙ any_by g.graph.now.packages g.names.keys c.self.invariant.names f ∙ ap (λ (x : FeatureGraphValue). is_node x.nodes f) c.self.view_is }
