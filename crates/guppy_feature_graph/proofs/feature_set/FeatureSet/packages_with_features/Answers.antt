use Rattle.guppy_package_graph.proofs.PlaceFacts.{ok_more}
use Rattle.guppy_feature_graph.proofs.feature_set.FeatureSet.packages_with_features.Goals as goal

pub returns : goal.returns
returns c = record {
  lists = ok_more c.lists_for.result (λ lists h. record { packages = c.in_ok-packages.packages; are_packages = c.in_ok-packages.ensures.packages; each = h }) c.lists_for.ensures;
}
