use Rattle.std.proofs.Common.{◌≡◌, ◌∙◌, ◌<◌, [], Some, ap, get_or, length, subst, sym}
use Rattle.guppy_feature_demands.specs.Nodes.{base_of}
use Rattle.guppy_package_graph.specs.Finding.{IsAt}
use Rattle.guppy_feature_nodes.specs.Graphs.{FeatureGraphValue, feature_at}
use Rattle.guppy_feature_nodes.specs.NodeNames.{NodeValue}
use Rattle.guppy_feature_nodes.proofs.NameFacts.{placed_by}
use Rattle.guppy_feature_nodes.proofs.feature_graph_data.FeatureGraphData.place_at.Goals as goal

pub returns-clause-at : goal.returns-clause-at
returns-clause-at c =
    let g = c.self.inside in
    let key = c.index-as_slice-node.result in
    let within = subst (λ (x : FeatureGraphValue). c.args.node < length x.nodes) (sym c.self.view_is) c.requires in
    let placed = placed_by g.graph.now.packages g.names.keys c.self.invariant.names c.args.node key (base_of []) within in
    let place : c.name.inside.place ≡ (get_or g.names.keys c.args.node key).place = ap (λ (n : NodeValue). n.place) (c.name.view_is ∙ c.index-as_slice-node.is ∙ ap (λ ks. get_or ks c.args.node key) c.as_slice.ensures.keys) in
    subst (λ (x : FeatureGraphValue). IsAt x.rows (feature_at x c.args.node).package_id c.name.inside.place) c.self.view_is (placed.0 ∙ ap Some (sym place))

pub returns-clause-within : goal.returns-clause-within
returns-clause-within c =
    let g = c.self.inside in
    let key = c.index-as_slice-node.result in
    let within = subst (λ (x : FeatureGraphValue). c.args.node < length x.nodes) (sym c.self.view_is) c.requires in
    let placed = placed_by g.graph.now.packages g.names.keys c.self.invariant.names c.args.node key (base_of []) within in
    let place : c.name.inside.place ≡ (get_or g.names.keys c.args.node key).place = ap (λ (n : NodeValue). n.place) (c.name.view_is ∙ c.index-as_slice-node.is ∙ ap (λ ks. get_or ks c.args.node key) c.as_slice.ensures.keys) in
    subst (λ (x : FeatureGraphValue). c.name.inside.place < length x.rows.packages) c.self.view_is (subst (λ n. n < length g.graph.now.packages) (sym place) placed.1)
