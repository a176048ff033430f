-- What the data of a feature graph keeps beside its nodes and edges.
use Rattle.std.specs.Prelude.{◌≡◌, ◌≢◌, All, AllPairs, map}
use Rattle.numbered_graph.specs.declared.direction.Direction.TheVariants.{Forward}
use Rattle.guppy_package_parts.specs.WarningViews.{warning_view}
use Rattle.guppy_feature_demands.specs.Nodes.{nodes_of}
use Rattle.guppy_package_table.specs.Tables.{ids_of}
use Rattle.guppy_feature_nodes.specs.EdgeViews.{edge_view}
use Rattle.guppy_feature_nodes.specs.Graphs.{FeatureGraphValue, IsFeatureGraph}
use Rattle.guppy_feature_nodes.specs.EdgeLinkViews.{AreEdgeLinks}
use Rattle.guppy_feature_nodes.specs.NodeNames.{node_of}
use Rattle.guppy_feature_nodes.specs.Offering.{offered}
use Rattle.guppy_feature_nodes.specs.OrderViews.{AreOrders}
use Rattle.guppy_feature_nodes.specs.declared.feature_graph_data.FeatureGraphData.TheInside.{Inside}

abbrev pub data_view : Inside → FeatureGraphValue
data_view g = record { rows = g.graph.now; nodes = nodes_of g.graph.now.packages; edges = map edge_view g.edges.items; warnings = map warning_view g.warnings.items; listing = g.orders.listing.items }

-- the graph is as the rows say, of which no two have one id; its nodes are kept by the places of their packages; the links of the lines behind
-- each edge are kept; the edges are kept as they are offered forward, and as links of nodes that are in order
pub record IsKept (g : Inside) : Type 0 where
  pub graph : IsFeatureGraph (data_view g)
  pub names : g.names.keys ≡ map (node_of (ids_of g.graph.now.packages)) (nodes_of g.graph.now.packages)
  pub ids_apart : AllPairs (λ a b. a.id ≢ b.id) g.graph.now.packages
  pub edge_links : All (λ e. AreEdgeLinks g.graph.now.links (edge_view e).lines e.links) g.edges.items
  pub orders : AreOrders g.graph.now.links (nodes_of g.graph.now.packages) (map edge_view g.edges.items) g.orders
  pub forward : g.forward ≡ offered Forward (data_view g)
