use Rattle.std.proofs.Common.{◌≡◌, ◌∙◌, ℕ, IsTrue, ap, refl}
use Rattle.numbered_graph.specs.Sets.{has}
use Rattle.guppy_package_table.specs.Tables.{TableValue, ids_of}
use Rattle.guppy_package_graph.specs.Views.{place_of}
use Rattle.guppy_feature_graph.specs.Views.{feature_graph_of}
use Rattle.guppy_feature_graph.proofs.PackageFacts.{of_package_by}
use Rattle.guppy_feature_graph.proofs.SetFacts.{ok_is}
use Rattle.guppy_feature_graph.proofs.package_sets.package_to_feature_set.Goals as goal

pub returns : goal.returns
returns c =
    let g = feature_graph_of c.args.graph.now in
    let included = c.in_ok-packages.packages.included in
    let passes : ℕ → Type 0 = λ place. place ≡ place_of c.args.«package».now in
    record {
      features = ok_is _ _ c.found.result c.found.ensures (record {
        graph = refl;
        members = λ v.
            let inside = c.in_ok-features.ensures.members v in
            let of_package = of_package_by g (λ place. IsTrue (has included place)) passes v c.in_ok-packages.ensures.named.members in
            (λ h. of_package.0 (inside.0 h), λ h. inside.1 (of_package.1 h));
      });
    }

pub features_of_packages-requires : goal.features_of_packages-requires
features_of_packages-requires c = ap (λ (t : TableValue). ids_of t.packages) c.in_ok-packages.ensures.named.graph ∙ c.requires
