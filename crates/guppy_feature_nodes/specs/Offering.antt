-- The edges of a feature graph as they are offered to one who says which of them are followed.
use Rattle.std.specs.Prelude.{ℕ, Bool, true, ◌&&◌, nat_lt, List, map, length, if◌then◌else◌}
use Rattle.numbered_graph.specs.declared.direction.Direction.{Direction}
use Rattle.numbered_graph.specs.declared.direction.Direction.TheVariants.{Forward, Reverse}
use Rattle.numbered_offers.specs.declared.edge.Edge.{Edge}
use Rattle.numbered_offers.specs.declared.edge.EdgeSort.{EdgeSort}
use Rattle.numbered_offers.specs.declared.edge.EdgeSort.TheVariants.{Unconditional, Conditional, Weak}
use Rattle.numbered_offers.specs.Graphs.{OfferGraphValue}
use Rattle.workspace_record.specs.Records.{Link}
use Rattle.guppy_feature_demands.specs.declared.link_declarations.LinkDeclarations.TheVariants.{Required, Optional}
use Rattle.guppy_feature_nodes.specs.GraphEdges.{EdgeForm, ToBase, ToFeature, ToDependency, ByStrongEntries, ByWeakEntries, ByLines, EdgeValue}
use Rattle.guppy_feature_nodes.specs.Graphs.{FeatureGraphValue}
use Rattle.guppy_feature_nodes.specs.Lines.{is_declared}

-- what waits for a node comes forward only where there is such a node; in reverse nothing waits
abbrev pub may_come : Direction → ℕ → ℕ → Bool
may_come Forward nodes dep = nat_lt dep nodes
may_come Reverse nodes dep = true

-- a weak edge has a half for its required lines and one for its optional ones; where the node for which the latter waits
-- is not there, some node stands in its place
abbrev pub weak_sort : Direction → ℕ → List Link → EdgeValue → ℕ → EdgeSort
weak_sort d nodes links e dep =
    Weak (if nat_lt dep nodes then dep else e.from) (is_declared links Required e.lines) (may_come d nodes dep && is_declared links Optional e.lines)

-- when an edge is crossed
abbrev pub sort_of : Direction → ℕ → List Link → EdgeValue → EdgeForm → EdgeSort
sort_of d nodes links e ToBase = Unconditional
sort_of d nodes links e ToFeature = Unconditional
sort_of d nodes links e ToDependency = Unconditional
sort_of d nodes links e ByStrongEntries = Conditional
sort_of d nodes links e (ByWeakEntries dep) = weak_sort d nodes links e dep
sort_of d nodes links e ByLines = Conditional

-- an edge as it is offered in a direction, where there are so many nodes (from guppy's weak features)
abbrev pub offer_edge : Direction → ℕ → List Link → EdgeValue → Edge
offer_edge d nodes links e = record { from = e.from; to = e.to; sort = sort_of d nodes links e e.form }

abbrev pub offer_edges : Direction → ℕ → List Link → List EdgeValue → List Edge
offer_edges d nodes links edges = map (offer_edge d nodes links) edges

-- the edges of a graph as they are offered in a direction (from guppy's weak features)
abbrev pub offers_of : Direction → FeatureGraphValue → List Edge
offers_of d g = offer_edges d (length g.nodes) g.rows.links g.edges

abbrev pub offered : Direction → FeatureGraphValue → OfferGraphValue
offered d g = record { nodes = length g.nodes; edges = offers_of d g }
