use Rattle.std.proofs.Common.{◌≡◌, ◌↔◌, ◌∷◌, [], ℕ, Contains, IsTrue, subst}
use Rattle.numbered_graph.specs.Sets.{has}
use Rattle.guppy_package_table.specs.Tables.{TableValue}
use Rattle.guppy_package_graph.specs.Queries.{IsQueryOf}
use Rattle.guppy_package_graph.specs.Views.{graph_of, place_of}
use Rattle.guppy_package_graph.proofs.PlaceFacts.{ok_more, one_alone}
use Rattle.guppy_package_graph.proofs.QueryFacts.{query_by}
use Rattle.guppy_package_graph.proofs.package_metadata.PackageMetadata.to_package_query.Goals as goal

pub returns : goal.returns
returns c =
    let m = c.args.self.now in
    let set = c.in_ok-set.set in
    let same : (v : ℕ) → IsTrue (has set v) ↔ (v ≡ place_of m) = λ v.
    let among = subst (λ x. IsTrue (has set v) ↔ Contains (x ∷ []) v) c.place.ensures.place (c.in_ok-set.ensures.members v) in
    let alone = one_alone (place_of m) v in
    (λ h. alone.0 (among.0 h), λ h. among.1 (alone.1 h)) in
    record { query = ok_more c.query_of_set.result (λ q h. query_by (graph_of m) c.args.direction (λ v. IsTrue (has set v)) (λ v. v ≡ place_of m) q same (subst (λ (g : TableValue). IsQueryOf g c.args.direction (λ v. IsTrue (has set v)) q) c.graph-graph.ensures.graph h)) c.query_of_set.ensures }
