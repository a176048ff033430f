use Rattle.std.specs.Prelude.{string_bytes}
use Rattle.guppy_package_parts.specs.Warnings.{Stage, AddNamedFeatureEdges, AddDependencyEdges, Warning, MissingFeature, SelfLoop}
use Rattle.guppy_package_parts.specs.declared.feature_warning.FeatureBuildStage.{FeatureBuildStage}
use Rattle.guppy_package_parts.specs.declared.feature_warning.FeatureBuildStage.TheVariants as stage
use Rattle.guppy_package_parts.specs.declared.feature_warning.FeatureGraphWarning.{FeatureGraphWarning}
use Rattle.guppy_package_parts.specs.declared.feature_warning.FeatureGraphWarning.TheVariants as warning

-- what contracts see of a stage
abbrev pub stage_view : FeatureBuildStage → Stage
stage_view (stage.AddNamedFeatureEdges id name) = AddNamedFeatureEdges id (string_bytes name)
stage_view (stage.AddDependencyEdges id name) = AddDependencyEdges id (string_bytes name)

-- what contracts see of a warning
abbrev pub warning_view : FeatureGraphWarning → Warning
warning_view (warning.MissingFeature stage id name) = MissingFeature (stage_view stage) id (string_bytes name)
warning_view (warning.SelfLoop id name) = SelfLoop id (string_bytes name)
