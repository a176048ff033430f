-- The roots of a set of features, and the edges inside it.
use Rattle.std.specs.Prelude.{◌↔◌, ℕ, List, Contains, IsTrue, filter, length}
use Rattle.numbered_graph.specs.Listings.{numbers_below}
use Rattle.numbered_graph.specs.Roots.{IsRoot, is_inside}
use Rattle.numbered_graph.specs.Sets.{has}
use Rattle.guppy_package_parts.specs.declared.dependency_direction.DependencyDirection.{DependencyDirection}
use Rattle.guppy_package_graph.specs.Directions.{direction_of}
use Rattle.guppy_feature_nodes.specs.GraphEdges.{edge_ends}
use Rattle.guppy_feature_views.specs.RootOrder.{Ascend}
use Rattle.guppy_feature_graph.specs.Sets.{SetValue}

-- the numbers of the features of the set whose component no edge inside it enters from another one, in the order of roots
pub record AreRoots (s : SetValue) (direction : DependencyDirection) (nodes : List ℕ) : Type 0 where
  pub ascending : Ascend s.graph nodes
  pub each : (v : ℕ) → Contains nodes v ↔ (IsTrue (has s.included v) × IsRoot (direction_of direction) (edge_ends s.graph.edges) s.included v)

-- the edges whose ends are both in the set, by their numbers
abbrev pub edges_inside : SetValue → List ℕ
edges_inside s = filter (is_inside (edge_ends s.graph.edges) s.included) (numbers_below (length s.graph.edges))
