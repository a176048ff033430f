use Rattle.workspace_record.specs.Features.{FeatureValue}
use Rattle.guppy_feature_demands.specs.LabelViews.{label_view}
use Rattle.guppy_feature_demands.specs.declared.feature_name.FeatureName.{FeatureName}

-- what contracts see of a feature that is named by texts
abbrev pub name_view : FeatureName → FeatureValue
name_view f = record { package_id = f.package_id.now; label = label_view f.label }
