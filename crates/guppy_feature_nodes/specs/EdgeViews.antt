use Rattle.std.specs.Prelude.{ℕ, List, []}
use Rattle.guppy_feature_nodes.specs.GraphEdges.{EdgeForm, ToBase, ToFeature, ToDependency, ByStrongEntries, ByWeakEntries, ByLines, EdgeValue}
use Rattle.guppy_feature_nodes.specs.declared.feature_edge.ConditionalLinkImpl.{ConditionalLinkImpl}
use Rattle.guppy_feature_nodes.specs.declared.feature_edge.SlashForm.TheVariants as slash
use Rattle.guppy_feature_nodes.specs.declared.feature_edge.FeatureEdge.{FeatureEdge}
use Rattle.guppy_feature_nodes.specs.declared.feature_edge.FeatureEdge.TheVariants as edge
use Rattle.guppy_feature_nodes.specs.declared.node_edge.NodeEdge.{NodeEdge}

-- the lines behind a link
abbrev pub link_lines : ConditionalLinkImpl → List (ℕ × ℕ)
link_lines link = link.lines

-- the form of an edge
abbrev pub form_view : FeatureEdge → EdgeForm
form_view edge.FeatureToBase = ToBase
form_view (edge.DependenciesSection link) = ByLines
form_view edge.NamedFeature = ToFeature
form_view edge.NamedFeatureDepColon = ToDependency
form_view (edge.NamedFeatureWithSlash (slash.Strong link)) = ByStrongEntries
form_view (edge.NamedFeatureWithSlash (slash.Weak weak)) = ByWeakEntries weak.index.node

-- the lines behind an edge
abbrev pub lines_view : FeatureEdge → List (ℕ × ℕ)
lines_view edge.FeatureToBase = []
lines_view (edge.DependenciesSection link) = link_lines link
lines_view edge.NamedFeature = []
lines_view edge.NamedFeatureDepColon = []
lines_view (edge.NamedFeatureWithSlash (slash.Strong link)) = link_lines link.link
lines_view (edge.NamedFeatureWithSlash (slash.Weak weak)) = link_lines weak.link.link

-- what contracts see of an edge between nodes
abbrev pub edge_view : NodeEdge → EdgeValue
edge_view e = record { from = e.from; to = e.to; form = form_view e.edge; lines = lines_view e.edge }
