-- Sets of features of a graph.
use Rattle.std.specs.Prelude.{◌≡◌, ◌↔◌, ℕ, Bool, List, IsTrue, filter}
use Rattle.numbered_graph.specs.Listings.{IsListing}
use Rattle.numbered_graph.specs.Sets.{has}
use Rattle.guppy_feature_nodes.specs.GraphEdges.{edge_ends}
use Rattle.guppy_feature_nodes.specs.Graphs.{FeatureGraphValue}
use Rattle.guppy_feature_nodes.specs.Orders.{firm_edges}

-- what is seen of a set: its graph, and a flag for each feature (from guppy's `FeatureSet`)
pub record SetValue : Type 0 where
  pub graph : FeatureGraphValue
  pub included : List Bool

-- the numbers of the set's features, in the order in which its graph lists them (from guppy's `FeatureSet`)
abbrev pub listed : SetValue → List ℕ
listed s = filter (has s.included) s.graph.listing

-- each feature of the set is listed once, components together, edges between components forward, and those forward too that
-- stand on more than dev lines, unless they lie on a cycle of such edges (from guppy's `FeatureSet`)
abbrev pub IsInOrder : SetValue → Type 0
IsInOrder s = IsListing (edge_ends s.graph.edges) (has (firm_edges s.graph.rows.links s.graph.edges)) (has s.included) (listed s)

-- the set is of this graph, and has the features that pass and no other (from guppy's `FeatureSet`)
pub record IsSetOf (g : FeatureGraphValue) (passes : ℕ → Type 0) (s : SetValue) : Type 0 where
  pub graph : s.graph ≡ g
  pub members : (v : ℕ) → IsTrue (has s.included v) ↔ passes v
