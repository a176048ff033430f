use Rattle.std.proofs.Common.{◌≡◌, length}
use Rattle.guppy_feature_graph.specs.PackageFeatures.{IsOfSet}
use Rattle.guppy_feature_graph.specs.Views.{feature_graph_of}
use Rattle.guppy_feature_graph.proofs.PackageFacts.{AreBelow}
use Rattle.guppy_feature_graph.proofs.package_features.features_of_packages.Given as goal

abbrev pub invariant-loop-node : goal.invariant-loop-node
invariant-loop-node l = record {
  sized : length l.features ≡ length (feature_graph_of l.graph).nodes;
  below : AreBelow l.node (IsOfSet (feature_graph_of l.graph) l.packages.included) l.features;
}
