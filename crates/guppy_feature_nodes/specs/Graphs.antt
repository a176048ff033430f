-- A feature graph that is built.
use Rattle.std.specs.Prelude.{◌≡◌, ◌<◌, ℕ, List, [], Contains, Some, length, nat_lt, slice_get, slice_index_or}
use Rattle.numbered_graph.specs.Listings.{IsListing}
use Rattle.numbered_graph.specs.Paths.{Reaches}
use Rattle.numbered_graph.specs.Sets.{has}
use Rattle.workspace_record.specs.Records.{Link, Package}
use Rattle.workspace_record.specs.Features.{FeatureValue}
use Rattle.guppy_package_parts.specs.Warnings.{Warning}
use Rattle.guppy_feature_demands.specs.Nodes.{base_of, features_of, nodes_of}
use Rattle.guppy_feature_demands.specs.Warnings.{warnings_of}
use Rattle.guppy_package_graph.specs.Finding.{IsAt}
use Rattle.guppy_package_table.specs.Tables.{TableValue}
use Rattle.guppy_feature_nodes.specs.GraphEdges.{AreEdges, EdgeValue, edge_ends}
use Rattle.guppy_feature_nodes.specs.Orders.{default_number, firm_edges, naming_edges}

-- the rows that it was built of, its nodes, its edges, what is odd, and the order in which the nodes are listed
pub record FeatureGraphValue : Type 0 where
  pub rows : TableValue
  pub nodes : List FeatureValue
  pub edges : List EdgeValue
  pub warnings : List Warning
  pub listing : List ℕ

-- the nodes are listed with components together, edges between components forward, and those forward too that stand on more
-- than dev lines, unless they lie on a cycle of such edges (from guppy's order of feature ids)
abbrev pub IsEdgeListing : List Link → List FeatureValue → List EdgeValue → List ℕ → Type 0
IsEdgeListing links nodes edges listing = IsListing (edge_ends edges) (has (firm_edges links edges)) (λ v. nat_lt v (length nodes)) listing

-- all is as the rows say
pub record IsFeatureGraph (g : FeatureGraphValue) : Type 0 where
  pub nodes : g.nodes ≡ nodes_of g.rows.packages
  pub edges : AreEdges g.rows.packages g.rows.links g.edges
  pub warnings : g.warnings ≡ warnings_of g.rows.packages g.rows.links
  pub listed : IsEdgeListing g.rows.links g.nodes g.edges g.listing

-- the feature with a number; past the end one of no package
abbrev pub feature_at : FeatureGraphValue → ℕ → FeatureValue
feature_at g node = slice_index_or g.nodes node (base_of [])

-- each feature is one that the row of its package lists
abbrev pub AreListed : FeatureGraphValue → Type 0
AreListed g = (v place : ℕ) (row : Package) → v < length g.nodes → IsAt g.rows (feature_at g v).package_id place → slice_get g.rows.packages place ≡ Some row → Contains (features_of row) (feature_at g v)

-- the feature is a default one: from the `default` of its own package, or where that names none from the package itself, edges
-- lead to it that stand for a feature's package and for features enabled by name (from guppy's `StandardFeatures`)
pub record IsDefault (g : FeatureGraphValue) (v : ℕ) : Type 0 where
  pub within : v < length g.nodes
  pub leads : Reaches (edge_ends g.edges) (has (naming_edges g.edges)) (default_number g.nodes (feature_at g v).package_id) v
