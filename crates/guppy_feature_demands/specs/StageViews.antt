use Rattle.guppy_package_parts.specs.Warnings.{Stage, AddNamedFeatureEdges, AddDependencyEdges}
use Rattle.guppy_feature_demands.specs.declared.warnings.WarningSite.{WarningSite}
use Rattle.guppy_feature_demands.specs.declared.warnings.WarningSite.TheVariants as code

-- what contracts see of the place where a feature is named
abbrev pub place_view : WarningSite → Stage
place_view (code.Entry id from) = AddNamedFeatureEdges id.now from.now
place_view (code.Line id name) = AddDependencyEdges id.now name.now
