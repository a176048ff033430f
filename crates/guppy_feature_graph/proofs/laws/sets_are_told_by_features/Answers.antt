use Rattle.guppy_feature_graph.specs.SetEquality.{same_features_decide}
use Rattle.guppy_feature_graph.proofs.laws.sets_are_told_by_features.Goals as goal

pub returns : goal.returns
returns c = record { told = same_features_decide }
