use Rattle.std.proofs.Common.{◌∙◌, ap, Bor, ℕ, Contains, IsTrue, map, subst, true}
use Rattle.numbered_graph.specs.Sets.{has}
use Rattle.guppy_package_table.specs.Tables.{id_at}
use Rattle.workspace_record.specs.Records.{Text}
use Rattle.guppy_package_graph.specs.Finding.{IsNamed}
use Rattle.guppy_package_graph.specs.SetValues.{IsSetOf}
use Rattle.guppy_package_graph.proofs.PlaceFacts.{ok_more}
use Rattle.guppy_feature_graph.specs.Queries.{IsQueryOf}
use Rattle.guppy_feature_graph.specs.Views.{feature_graph_of}
use Rattle.guppy_feature_graph.proofs.PackageFacts.{of_package_by}
use Rattle.guppy_feature_graph.proofs.TakeFacts.{judged_by}
use Rattle.guppy_feature_graph.proofs.package_sets.query_to_feature_query.Goals as goal

pub returns-clause-ok : goal.returns-clause-ok
returns-clause-ok g c =
    let of = feature_graph_of c.args.graph.now in
    let q = c.args.query.now in
    let ids = ap (map (λ (id : Bor Text). id.now)) c.deref.ensures.value ∙ c.in_ok-ids.ensures in
    let packages = subst (λ ns. IsSetOf q.graph (IsNamed q.graph ns) c.in_ok-packages.packages) ids (subst (λ of. IsSetOf of (IsNamed of (map (λ (id : Bor Text). id.now) c.deref.result.now)) c.in_ok-packages.packages) c.graph.ensures.graph c.in_ok-packages.ensures.named) in
    let included = c.in_ok-packages.packages.included in
    let named : ℕ → Type 0 = IsNamed q.graph (map (id_at q.graph) q.initials) in
    ok_more c.query_by_filter.result (λ r h. (h.0, judged_by (λ v. of_package_by of (λ place. IsTrue (has included place)) named v packages.members) h.1, h.2, subst (λ d. IsQueryOf of d (λ v. Contains h.0 (v, true)) r) c.direction.ensures.direction h.3)) c.query_by_filter.ensures.ok
