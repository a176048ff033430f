use Rattle.std.proofs.Common.{◌∙◌, ◌<◌, [], ap, get_or, length, subst, sym}
use Rattle.guppy_feature_demands.specs.Nodes.{base_of}
use Rattle.guppy_package_graph.specs.Finding.{IsAt}
use Rattle.guppy_feature_nodes.specs.Graphs.{FeatureGraphValue, feature_at}
use Rattle.guppy_feature_nodes.specs.NodeNames.{NodeValue}
use Rattle.guppy_feature_nodes.proofs.NameFacts.{id_at, node_by}
use Rattle.guppy_package_table.specs.Tables.{ids_of}
use Rattle.guppy_feature_nodes.proofs.feature_graph_data.FeatureGraphData.feature_at.Goals as goal

pub returns : goal.returns
returns c =
    let g = c.self.inside in
    let node = c.args.node in
    let key = c.index-as_slice-node.result in
    let within = subst (λ (x : FeatureGraphValue). node < length x.nodes) (sym c.self.view_is) c.requires in
    let kept = c.name.view_is ∙ c.index-as_slice-node.is ∙ ap (λ ks. get_or ks node key) c.as_slice.ensures.keys ∙ node_by g.graph.now.packages g.names.keys c.self.invariant.names node key (base_of []) within in
    let label = c.lent_label.ensures ∙ ap (λ (n : NodeValue). n.label) kept ∙ ap (λ (x : FeatureGraphValue). (feature_at x node).label) c.self.view_is in
    let at = subst (λ (x : FeatureGraphValue). IsAt x.rows (feature_at c.args.self.now node).package_id c.place_at.result) (sym c.self.view_is) c.place_at.ensures.at in
    let id = c.index-package_ids-place_at.is ∙ ap (λ ids. get_or ids c.place_at.result c.index-package_ids-place_at.result) c.package_ids.ensures.ids ∙ id_at (ids_of g.graph.now.packages) (feature_at c.args.self.now node).package_id c.place_at.result c.index-package_ids-place_at.result at in
    record { feature = c.new.ensures.value ∙ (λ i. record { package_id = id i; label = label i }) }
