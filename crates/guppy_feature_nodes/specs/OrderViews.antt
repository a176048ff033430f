-- What is kept of the order of nodes.
use Rattle.std.specs.Prelude.{◌≡◌, ◌↔◌, ℕ, List, IsTrue, length}
use Rattle.numbered_graph.specs.Sets.{has}
use Rattle.workspace_record.specs.Records.{Link}
use Rattle.workspace_record.specs.Features.{FeatureValue}
use Rattle.guppy_feature_nodes.specs.GraphEdges.{EdgeValue, edge_ends}
use Rattle.guppy_feature_nodes.specs.Graphs.{IsEdgeListing}
use Rattle.guppy_feature_nodes.specs.Orders.{IsDefaultAmong}
use Rattle.guppy_feature_nodes.specs.declared.orders.Orders.{Orders}

-- the graph of the edges' ends, the listing of its nodes, and the set of the default features
pub record AreOrders (links : List Link) (nodes : List FeatureValue) (edges : List EdgeValue) (orders : Orders) : Type 0 where
  pub graph : orders.graph ≡ record { nodes = length nodes; links = edge_ends edges }
  pub listed : IsEdgeListing links nodes edges orders.listing.items
  pub defaults : (v : ℕ) → IsTrue (has orders.defaults v) ↔ IsDefaultAmong nodes edges v
