use Rattle.std.proofs.Common.{◌↔◌, ℕ, IsTrue, subst}
use Rattle.numbered_graph.specs.Sets.{has}
use Rattle.guppy_package_table.specs.Tables.{TableValue}
use Rattle.guppy_package_graph.proofs.PlaceFacts.{ok_more}
use Rattle.guppy_package_graph.specs.Workspaces.{IsMemberPlace}
use Rattle.guppy_feature_graph.specs.Views.{feature_graph_of}
use Rattle.guppy_feature_graph.proofs.PackageFacts.{of_package_by}
use Rattle.guppy_feature_graph.proofs.TakeFacts.{judged_by}
use Rattle.guppy_feature_graph.proofs.feature_graph.FeatureGraph.query_workspace.Goals as goal

pub returns-clause-ok : goal.returns-clause-ok
returns-clause-ok g c =
    let of = feature_graph_of c.args.self.now in
    let included = c.in_ok-members.members.included in
    let members : (place : ℕ) → IsTrue (has included place) ↔ IsMemberPlace of.rows place =
    subst (λ (t : TableValue). (place : ℕ) → IsTrue (has included place) ↔ IsMemberPlace t place) c.package_graph.ensures.rows c.in_ok-members.ensures.members.members in
    ok_more c.query_by_filter.result (λ q h. (h.0, judged_by (λ v. of_package_by of (λ place. IsTrue (has included place)) (IsMemberPlace of.rows) v members) h.1, h.2, h.3)) c.query_by_filter.ensures.ok
