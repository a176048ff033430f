use Rattle.std.proofs.Common.{◌≡◌, ◌∙◌, ap, sym}
use Rattle.std.specs.List.{position_or_len}
use Rattle.guppy_feature_demands.specs.NameViews.{name_view}
use Rattle.guppy_feature_demands.specs.Nodes.{number_of}
use Rattle.guppy_feature_demands.proofs.NumberFacts.{at_end, at_place}
use Rattle.guppy_package_table.specs.Tables.{ids_of}
use Rattle.guppy_feature_nodes.specs.Graphs.{FeatureGraphValue}
use Rattle.guppy_feature_nodes.specs.NodeNames.{NodeValue, lent_view, node_eq, node_of}
use Rattle.guppy_feature_nodes.proofs.NameFacts.{number_by}
use Rattle.guppy_feature_nodes.proofs.feature_graph_data.FeatureGraphData.number_of.Goals as goal

pub returns-in-Some : goal.returns-in-Some
returns-in-Some c =
    let g = c.self.inside in
    let f = name_view c.args.feature in
    let node : lent_view c.lent_node.result ≡ node_of (ids_of g.graph.now.packages) f = c.lent_node.ensures ∙ ap (λ (x : FeatureGraphValue). node_of (ids_of x.rows.packages) f) (sym c.self.view_is) in
    record {
      number = sym (at_place (node_eq (lent_view c.lent_node.result)) g.names.keys c.in-Some.number (sym c.get_index_of.ensures.index ∙ c.in-Some.is)) ∙ ap (λ (n : NodeValue). position_or_len (node_eq n) g.names.keys) node ∙ number_by g.graph.now.packages g.names.keys c.self.invariant.names f ∙ ap (λ (x : FeatureGraphValue). number_of x.nodes f) c.self.view_is;
    }

pub returns-in-None : goal.returns-in-None
returns-in-None c =
    let g = c.self.inside in
    let f = name_view c.args.feature in
    let node : lent_view c.lent_node.result ≡ node_of (ids_of g.graph.now.packages) f = c.lent_node.ensures ∙ ap (λ (x : FeatureGraphValue). node_of (ids_of x.rows.packages) f) (sym c.self.view_is) in
    record {
      number = c.len.ensures.len ∙ sym (at_end (node_eq (lent_view c.lent_node.result)) g.names.keys (sym c.get_index_of.ensures.index ∙ c.in-None.is)) ∙ ap (λ (n : NodeValue). position_or_len (node_eq n) g.names.keys) node ∙ number_by g.graph.now.packages g.names.keys c.self.invariant.names f ∙ ap (λ (x : FeatureGraphValue). number_of x.nodes f) c.self.view_is;
    }
