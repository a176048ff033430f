-- The edges of a feature graph.
use Rattle.std.specs.Prelude.{◌≡◌, ◌≢◌, ℕ, ◌<◌, Bool, true, false, List, [], All, length, map, slice_get, slice_index_or}
use Rattle.std.specs.Option.{option_map_or}
use Rattle.numbered_graph.specs.declared.link.Link as numbered
use Rattle.workspace_record.specs.Records.{Text, Package, Link}
use Rattle.guppy_package_parts.specs.Lines.{IsLineAt}
use Rattle.workspace_record.specs.Features.{FeatureValue}
use Rattle.guppy_feature_demands.specs.Demands.{FormValue, FeatureToBase, NamedFeature, NamedFeatureDepColon, StrongSlash, WeakSlash, DependenciesSection, demands_of, kept_demands}
use Rattle.guppy_feature_demands.specs.Nodes.{dep_of, nodes_of, number_of}
use Rattle.guppy_feature_nodes.specs.Joining.{AreJoined, JoinedValue}

-- why an edge is there; the optional half of a weak one waits for a node, which is told by its number
pub data EdgeForm : Type 0 where
  ToBase : EdgeForm
  ToFeature : EdgeForm
  ToDependency : EdgeForm
  ByStrongEntries : EdgeForm
  ByWeakEntries : ℕ → EdgeForm
  ByLines : EdgeForm

-- an edge from a node to another, with the lines behind it, each told by the number of its link and by its own there
pub record EdgeValue : Type 0 where
  pub from : ℕ
  pub to : ℕ
  pub form : EdgeForm
  pub lines : List (ℕ × ℕ)

-- the node of the optional dependency that a feature's weak entry names; past the end where there is none
abbrev pub waits_for : List FeatureValue → ℕ → Text → ℕ
waits_for nodes from name =
    option_map_or (λ f. number_of nodes (dep_of f.package_id name)) (slice_get nodes from) (length nodes)

-- the form of an edge from a node
abbrev pub edge_form : List FeatureValue → ℕ → FormValue → EdgeForm
edge_form nodes from FeatureToBase = ToBase
edge_form nodes from NamedFeature = ToFeature
edge_form nodes from NamedFeatureDepColon = ToDependency
edge_form nodes from (StrongSlash name) = ByStrongEntries
edge_form nodes from (WeakSlash name) = ByWeakEntries (waits_for nodes from name)
edge_form nodes from DependenciesSection = ByLines

-- no lines stand behind an edge that is crossed always
abbrev pub edge_lines : FormValue → List (ℕ × ℕ) → List (ℕ × ℕ)
edge_lines FeatureToBase lines = []
edge_lines NamedFeature lines = []
edge_lines NamedFeatureDepColon lines = []
edge_lines (StrongSlash name) lines = lines
edge_lines (WeakSlash name) lines = lines
edge_lines DependenciesSection lines = lines

abbrev pub edge_value : List FeatureValue → JoinedValue → EdgeValue
edge_value nodes e =
    record { from = e.head.from; to = e.head.to; form = edge_form nodes e.head.from e.head.form; lines = edge_lines e.head.form e.lines }

-- the edges are joined from what the rows demand
pub record AreEdges (packages : List Package) (links : List Link) (edges : List EdgeValue) : Type 0 where
  pub joined : List JoinedValue
  pub joins : AreJoined (kept_demands (nodes_of packages) (demands_of packages links)) joined
  pub values : edges ≡ map (edge_value (nodes_of packages)) joined

-- the edge with a number; past the end one that is of no graph
abbrev pub edge_at : List EdgeValue → ℕ → EdgeValue
edge_at edges number = slice_index_or edges number (record { from = 0; to = 0; form = ToBase; lines = [] })

-- the edge is crossed always, whichever lines are on
abbrev pub is_always : EdgeForm → Bool
is_always ToBase = true
is_always ToFeature = true
is_always ToDependency = true
is_always ByStrongEntries = false
is_always (ByWeakEntries dep) = false
is_always ByLines = false

-- the edge leads from one node to another; the lines behind it are lines of the rows, and there are some unless it is crossed
-- always
pub record IsEdgeWithin (nodes : ℕ) (links : List Link) (e : EdgeValue) : Type 0 where
  pub from : e.from < nodes
  pub to : e.to < nodes
  pub differ : e.from ≢ e.to
  pub lines : All (IsLineAt links) e.lines
  pub lined : is_always e.form ≡ false → 0 < length e.lines

abbrev pub AreEdgesWithin : ℕ → List Link → List EdgeValue → Type 0
AreEdgesWithin nodes links edges = All (IsEdgeWithin nodes links) edges

-- the two ends of an edge
abbrev pub ends_of : EdgeValue → numbered.Link
ends_of e = record { from = e.from; to = e.to }

-- the edges as links of numbered nodes
abbrev pub edge_ends : List EdgeValue → List numbered.Link
edge_ends edges = map ends_of edges
