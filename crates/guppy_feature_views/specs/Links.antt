-- Links between features: edges of a graph, or halves of them.
use Rattle.std.specs.Prelude.{ℕ, List}
use Rattle.workspace_record.specs.Records.{Line}
use Rattle.workspace_record.specs.declared.kinds.LineKind.{LineKind}
use Rattle.guppy_package_parts.specs.Lines.{lines_at}
use Rattle.guppy_feature_demands.specs.declared.link_declarations.LinkDeclarations.{LinkDeclarations}
use Rattle.guppy_feature_nodes.specs.GraphEdges.{EdgeValue, edge_at}
use Rattle.guppy_feature_nodes.specs.Graphs.{FeatureGraphValue}
use Rattle.guppy_feature_nodes.specs.Lines.{lines_shown, links_shown}

-- a link of a graph: the number of its edge, and which of the lines behind that it stands on (from guppy's `ConditionalLink`)
pub record LinkValue : Type 0 where
  pub graph : FeatureGraphValue
  pub number : ℕ
  pub declarations : LinkDeclarations

-- the edge of a link (from guppy's `ConditionalLink`)
abbrev pub edge_of : LinkValue → EdgeValue
edge_of l = edge_at l.graph.edges l.number

-- the lines of a kind that it stands on, each told by its link and its place in it
abbrev pub line_places : LinkValue → LineKind → List (ℕ × ℕ)
line_places l kind = lines_shown l.graph.rows.links l.declarations kind (edge_of l).lines

-- the lines of a kind behind a link, of those that are shown (from guppy's `ConditionalLink`)
abbrev pub lines_behind : LinkValue → LineKind → List Line
lines_behind l kind = lines_at l.graph.rows.links (line_places l kind)

-- the links of the lines that it stands on, by their numbers
abbrev pub link_numbers : LinkValue → List ℕ
link_numbers l = links_shown l.graph.rows.links l.declarations (edge_of l).lines
