use Rattle.std.proofs.Common.{◌∙◌, map, refl, rules}
use Rattle.guppy_feature_demands.specs.Nodes.{nodes_of}
use Rattle.guppy_feature_nodes.specs.EdgeViews.{edge_view}
use Rattle.guppy_feature_nodes.proofs.GraphFacts.{parts_within}
use Rattle.guppy_feature_nodes.proofs.NameFacts.{count_by}
use Rattle.guppy_feature_nodes.proofs.feature_graph_data.FeatureGraphData.reverse_offers.Goals as goal

pub offer_graph-requires : goal.offer_graph-requires
offer_graph-requires c =
    let g = c.self.inside in
    let built = c.self.invariant.graph in
    parts_within g.graph.now.packages g.graph.now.links c.link_rows-links.result.now (map edge_view g.edges.items) (map edge_view c.deref.result.now) (nodes_of g.graph.now.packages) c.len-count.result built.edges refl (c.len-count.ensures.len ∙ count_by g.graph.now.packages g.names.keys c.self.invariant.names) (search rules) (search rules)
