-- Callbacks that choose features of a set.
use Rattle.std.specs.Prelude.{◌≡◌, ℕ, List, map}
use Rattle.std.specs.Fn.{Mut, Called}
use Rattle.numbered_graph.specs.ListedViews.{in_direction}
use Rattle.guppy_package_parts.specs.declared.dependency_direction.DependencyDirection.{DependencyDirection}
use Rattle.guppy_package_graph.specs.Directions.{direction_of}
use Rattle.guppy_package_graph.specs.Visits.{Chain}
use Rattle.guppy_feature_nodes.specs.Graphs.{FeatureGraphValue}
use Rattle.guppy_feature_views.specs.Views.{metadata_graph_of, node_of}
use Rattle.guppy_feature_views.specs.declared.feature_metadata.FeatureMetadata.{FeatureMetadata}
use Rattle.guppy_feature_graph.specs.Sets.{SetValue, listed}

-- the callback is called with the feature that has a number, and answers (from guppy's `FeatureFilter`)
pub record AsksFeature {F A : Type 0} (call : Mut F (FeatureMetadata × Unit {0}) A) (g : FeatureGraphValue) (f : F) (v : ℕ) (answer : A) (next : F) : Type 0 where
  pub metadata : FeatureMetadata
  pub of_graph : metadata_graph_of metadata ≡ g
  pub of_node : node_of metadata ≡ v
  pub called : Called call f (metadata, tt) answer next

-- the callback is asked about each feature of the set once, in the order in which the set is listed
-- (from guppy's `FeatureFilter`)
pub record AreAsked {F A : Type 0} (call : Mut F (FeatureMetadata × Unit {0}) A) (s : SetValue) (direction : DependencyDirection) (first : F) (asked : List (ℕ × A)) (last : F) : Type 0 where
  pub each : map (λ a. a.0) asked ≡ in_direction (direction_of direction) (listed s)
  pub chain : Chain (AsksFeature call s.graph) first asked last
