use Rattle.std.specs.Prelude.{ℕ}
use Rattle.guppy_feature_nodes.specs.Graphs.{FeatureGraphValue}
use Rattle.guppy_feature_views.specs.Links.{LinkValue}
use Rattle.guppy_feature_views.specs.declared.feature_metadata.FeatureMetadata.{FeatureMetadata}
use Rattle.guppy_feature_views.specs.declared.conditional_link.ConditionalLink.{ConditionalLink}

-- the graph of a feature, and its number there
abbrev pub metadata_graph_of : FeatureMetadata → FeatureGraphValue
metadata_graph_of m = m.built.now

abbrev pub node_of : FeatureMetadata → ℕ
node_of m = m.node

-- both
abbrev pub seen : FeatureMetadata → FeatureGraphValue × ℕ
seen m = (metadata_graph_of m, node_of m)

-- what contracts see of a link
abbrev pub link_view : ConditionalLink → LinkValue
link_view l = record { graph = l.built.now; number = l.number; declarations = l.declarations }
