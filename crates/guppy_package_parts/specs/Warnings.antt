-- Warnings of a feature graph that is built, with texts as their bytes.
use Rattle.workspace_record.specs.Records.{Text}

-- of a `FeatureBuildStage`: a package, and one of its features or the name of one of its dependencies
pub data Stage : Type 0 where
  AddNamedFeatureEdges : Text → Text → Stage
  AddDependencyEdges : Text → Text → Stage

-- of a `FeatureGraphWarning`: the package that lacks the feature, or whose feature names itself
pub data Warning : Type 0 where
  MissingFeature : Stage → Text → Text → Warning
  SelfLoop : Text → Text → Warning
