use Rattle.std.specs.List.Sorted.{IsStrictlySortedBy}
use Rattle.guppy_feature_nodes.proofs.feature_edge.FeatureEdge.lines.Goals as goal

pub returns-in-FeatureToBase-clause-ascending : goal.returns-in-FeatureToBase-clause-ascending
unfolding IsStrictlySortedBy
returns-in-FeatureToBase-clause-ascending c = tt
