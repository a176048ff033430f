-- Callbacks that choose packages of a set.
use Rattle.std.specs.Prelude.{◌≡◌, ℕ, List, map}
use Rattle.std.specs.Fn.{Mut, Called}
use Rattle.numbered_graph.specs.ListedViews.{in_direction}
use Rattle.guppy_package_parts.specs.declared.dependency_direction.DependencyDirection.{DependencyDirection}
use Rattle.guppy_package_table.specs.Tables.{TableValue}
use Rattle.guppy_package_graph.specs.Directions.{direction_of}
use Rattle.guppy_package_graph.specs.SetValues.{SetValue, listed}
use Rattle.guppy_package_graph.specs.Views.{graph_of, place_of}
use Rattle.guppy_package_graph.specs.Visits.{Chain}
use Rattle.guppy_package_graph.specs.declared.package_metadata.PackageMetadata.{PackageMetadata}

-- the callback is called with the package at a place, and answers (from guppy's `filter`, `partition`)
pub record AsksPackage {F A : Type 0} (call : Mut F (PackageMetadata × Unit {0}) A) (g : TableValue) (f : F) (v : ℕ) (answer : A) (next : F) : Type 0 where
  pub metadata : PackageMetadata
  pub of_graph : graph_of metadata ≡ g
  pub of_place : place_of metadata ≡ v
  pub called : Called call f (metadata, tt) answer next

-- the callback is asked about each package of the set once, in the order in which the set is listed
-- (from guppy's `filter`, `partition`)
pub record AreAsked {F A : Type 0} (call : Mut F (PackageMetadata × Unit {0}) A) (s : SetValue) (direction : DependencyDirection) (first : F) (asked : List (ℕ × A)) (last : F) : Type 0 where
  pub each : map (λ a. a.0) asked ≡ in_direction (direction_of direction) (listed s)
  pub chain : Chain (AsksPackage call s.graph) first asked last
