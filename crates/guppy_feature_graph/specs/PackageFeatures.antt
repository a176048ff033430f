-- The features of packages.
use Rattle.std.specs.Prelude.{◌≡◌, ◌↔◌, ℕ, ◌<◌, Bool, List, IsTrue, Some, length, slice_get, if◌then◌else◌}
use Rattle.std.specs.List.{list_any}
use Rattle.std.specs.Str.{bytes_eq}
use Rattle.numbered_graph.specs.Sets.{has}
use Rattle.guppy_package_graph.specs.Finding.{IsAt}
use Rattle.guppy_package_graph.specs.SetValues as sets
use Rattle.workspace_record.specs.Records.{Package, Text}
use Rattle.workspace_record.specs.Features.{FeatureValue}
use Rattle.guppy_package_table.specs.Tables.{TableValue, id_at}
use Rattle.guppy_feature_demands.specs.Nodes.{base_of, named_of}
use Rattle.guppy_feature_nodes.specs.Orders.{default_name}
use Rattle.guppy_feature_nodes.specs.Graphs.{FeatureGraphValue, feature_at}
use Rattle.guppy_feature_graph.specs.Sets.{SetValue}

-- the feature's package is at a place that passes
pub record IsOfPackage (g : FeatureGraphValue) (passes : ℕ → Type 0) (v : ℕ) : Type 0 where
  pub within : v < length g.nodes
  pub place : ℕ
  pub is_at : IsAt g.rows (feature_at g v).package_id place
  pub is : passes place

-- the feature's package is in the set
abbrev pub IsOfSet : FeatureGraphValue → List Bool → ℕ → Type 0
IsOfSet g included v = IsOfPackage g (λ place. IsTrue (has included place)) v

-- the feature called `default` of the package whose row stands at the place, or where it names none the package itself
pub record IsDefaultId (t : TableValue) (place : ℕ) (f : FeatureValue) : Type 0 where
  pub row : Package
  pub is_row : slice_get t.packages place ≡ Some row
  pub is : f ≡ (if list_any (λ x. bytes_eq x.name default_name) row.features then named_of row.id default_name else base_of row.id)

-- a feature of the set is of the package at the place
pub record IsOfFeature (s : SetValue) (place : ℕ) : Type 0 where
  pub node : ℕ
  pub is_in : IsTrue (has s.included node)
  pub is_at : IsAt s.graph.rows (feature_at s.graph node).package_id place

-- the set of packages is of the graph's rows, and has those that pass and no other
pub record IsPackageSetOf (g : FeatureGraphValue) (passes : ℕ → Type 0) (packages : sets.SetValue) : Type 0 where
  pub graph : packages.graph ≡ g.rows
  pub members : (place : ℕ) → IsTrue (has packages.included place) ↔ passes place

-- the id of a package that is told by its graph and its place
abbrev pub id_seen : TableValue × ℕ → Text
id_seen p = id_at p.0 p.1
