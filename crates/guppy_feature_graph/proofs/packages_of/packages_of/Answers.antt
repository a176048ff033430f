use Rattle.std.proofs.Common.{length, sym, ◌≡◌, ◌∙◌, ◌↔◌, ℕ, List, Bor, Contains, IsTrue, ap, map, subst}
use Rattle.numbered_graph.specs.Sets.{has}
use Rattle.guppy_package_table.specs.Tables.{TableValue}
use Rattle.guppy_feature_demands.specs.Nodes.{nodes_of}
use Rattle.guppy_feature_nodes.specs.Graphs.{AreListed, FeatureGraphValue, feature_at}
use Rattle.guppy_package_graph.specs.Finding.{IsNamed}
use Rattle.guppy_package_graph.proofs.PlaceFacts.{ok_more}
use Rattle.guppy_feature_graph.proofs.PackageFacts.{named_features}
use Rattle.guppy_feature_graph.proofs.packages_of.packages_of.Goals as goal

pub returns : goal.returns
returns c =
    let s = c.args.set.now in
    let nodes = c.in_ok-nodes.nodes.items in
    let text : Bor (List ℕ) → List ℕ = λ id. id.now in
    let of_graph : c.built-built.result.now ≡ s.graph = c.built-built.ensures ∙ c.graph.ensures.graph in
    let rows : c.package_graph.result.now ≡ s.graph.rows = c.package_graph.ensures.rows ∙ ap (λ (x : FeatureGraphValue). x.rows) of_graph in
    let listed : (v : ℕ) → Contains nodes v ↔ IsTrue (has s.included v) = subst (λ xs. (v : ℕ) → Contains nodes v ↔ IsTrue (has xs v)) c.included.ensures.value c.in_ok-nodes.ensures.each in
    let ids : map text c.deref-2.result.now ≡ map (λ v. (feature_at s.graph v).package_id) nodes =
    ap (map text) c.deref-2.ensures.value ∙ c.in_ok-ids.ensures ∙ ap (λ (x : FeatureGraphValue). map (λ v. (feature_at x v).package_id) c.deref.result.now) of_graph ∙ ap (map (λ v. (feature_at s.graph v).package_id)) c.deref.ensures.value in
    record {
      sized = ap length (sym c.included.ensures.value) ∙ c.included.ensures.sized;
      features = ok_more c.known_packages.result (λ packages h. subst (λ (x : FeatureGraphValue). x.nodes ≡ nodes_of x.rows.packages) of_graph c.package_graph.ensures.features) c.known_packages.ensures.named;
      listed = ok_more c.known_packages.result (λ packages h. subst AreListed of_graph c.package_graph.ensures.listed) c.known_packages.ensures.named;
      packages = ok_more c.known_packages.result (λ packages h.
          let named = subst (λ (t : TableValue). (place : ℕ) → IsTrue (has packages.included place) ↔ IsNamed t (map text c.deref-2.result.now) place) rows h.members in
          record {
            graph = h.graph ∙ rows;
            members = λ place.
                let same = named_features s nodes (map text c.deref-2.result.now) place listed ids in
                (λ k. same.0 ((named place).0 k), λ k. (named place).1 (same.1 k));
          }) c.known_packages.ensures.named;
    }
