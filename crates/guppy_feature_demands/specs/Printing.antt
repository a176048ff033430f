-- How features are printed.
use Rattle.std.specs.Prelude.{codes, ◌++◌}
use Rattle.workspace_record.specs.Records.{Text}
use Rattle.workspace_record.specs.Features.{LabelValue, Base, Named, Dep, FeatureValue}

-- the printed bytes of a label (from guppy's `FeatureId`, `FeatureLabel`)
abbrev pub label_text : LabelValue → Text
label_text Base = codes "[base]"
label_text (Named name) = name
label_text (Dep name) = codes "dep:" ++ name

-- the package's id, a slash, and the label (from guppy's `FeatureId`, `FeatureLabel`)
abbrev pub feature_text : FeatureValue → Text
feature_text f = f.package_id ++ codes "/" ++ label_text f.label
