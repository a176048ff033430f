use Rattle.std.proofs.Common.{◌≢◌, ◌∙◌, AllPairs, Contains, List, length, map, refl, rules, subst, sym}
use Rattle.workspace_record.specs.Features.{FeatureValue}
use Rattle.guppy_feature_nodes.specs.EdgeViews.{edge_view}
use Rattle.guppy_feature_nodes.proofs.DistinctFacts.{nodes_differ}
use Rattle.guppy_feature_nodes.proofs.GraphFacts.{parts_within}
use Rattle.guppy_feature_nodes.proofs.NodeFacts.{node_package}
use Rattle.guppy_feature_nodes.proofs.feature_graph_data.FeatureGraphData.build.Goals as goal

pub offer_graph-requires : goal.offer_graph-requires
offer_graph-requires c =
    let parts = c.in_ok-nodes.field-0 in
    parts_within c.args.graph.now.packages c.args.graph.now.links c.link_rows-links.result.now (map edge_view parts.edges.items) (map edge_view c.deref-2.result.now) parts.nodes c.len-count.result c.in_ok-nodes.ensures.edges c.in_ok-nodes.ensures.nodes (search rules) (search rules) (search rules)

pub orders_of-requires : goal.orders_of-requires
orders_of-requires c =
    let parts = c.in_ok-nodes.field-0 in
    parts_within c.args.graph.now.packages c.args.graph.now.links c.link_rows-links.result.now (map edge_view parts.edges.items) (map edge_view c.deref.result.now) parts.nodes (length parts.nodes) c.in_ok-nodes.ensures.edges c.in_ok-nodes.ensures.nodes refl (search rules) (search rules)

pub node_names-requires : goal.node_names-requires
node_names-requires c =
    let packages = c.args.graph.now.packages in
    let nodes = c.ids.ensures.value ∙ c.in_ok-nodes.ensures.nodes in
    record {
      known = λ f h. node_package packages f (subst (λ (xs : List FeatureValue). Contains xs f) nodes h);
      differ = subst (λ (xs : List FeatureValue). AllPairs (λ x y. x ≢ y) xs) (sym nodes) (nodes_differ packages);
    }
