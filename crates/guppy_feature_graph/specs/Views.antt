use Rattle.guppy_feature_nodes.specs.Graphs.{FeatureGraphValue}
use Rattle.guppy_feature_graph.specs.declared.feature_graph.FeatureGraph.{FeatureGraph}

-- what contracts see of a feature graph
abbrev pub feature_graph_of : FeatureGraph → FeatureGraphValue
feature_graph_of g = g.built.now
