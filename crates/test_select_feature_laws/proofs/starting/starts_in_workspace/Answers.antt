use Rattle.std.proofs.Common.{◌≡◌, ◌∙◌, ap, is_some, subst}
use Rattle.guppy_package_graph.specs.Finding.{IsAt}
use Rattle.guppy_package_graph.specs.Views.{graph_of, place_of}
use Rattle.guppy_package_graph.proofs.PlaceFacts.{member_at}
use Rattle.guppy_package_table.specs.Tables.{TableValue, member_path_at}
use Rattle.guppy_feature_nodes.specs.Graphs.{FeatureGraphValue, feature_at}
use Rattle.guppy_feature_views.specs.Links.{LinkValue, edge_of}
use Rattle.guppy_feature_views.specs.Views.{link_view, metadata_graph_of, node_of}
use Rattle.test_select_feature_laws.proofs.starting.starts_in_workspace.Goals as goal

pub returns : goal.returns
returns c =
    let l : LinkValue = link_view c.args.link in
    let from = c.from.result in
    let graph : metadata_graph_of from ≡ l.graph = c.from.ensures.graph in
    let at : IsAt l.graph.rows (feature_at l.graph (edge_of l).from).package_id (place_of c.package.result) =
    subst (λ n. IsAt l.graph.rows (feature_at l.graph n).package_id (place_of c.package.result)) c.from.ensures.node
    (subst (λ (g : FeatureGraphValue). IsAt g.rows (feature_at g (node_of from)).package_id (place_of c.package.result)) graph c.package.ensures.package) in
    let rows : graph_of c.package.result ≡ l.graph.rows = c.package.ensures.graph ∙ ap (λ (g : FeatureGraphValue). g.rows) graph in
    c.in_workspace.ensures.member ∙ ap (λ (g : TableValue). is_some (member_path_at g (place_of c.package.result))) rows ∙ member_at l.graph.rows _ (place_of c.package.result) at
