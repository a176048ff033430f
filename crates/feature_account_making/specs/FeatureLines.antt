-- Features as text.
use Rattle.std.specs.Prelude.{◌++◌, codes}
use Rattle.workspace_record.specs.Records.{Text}
use Rattle.workspace_record.specs.Features.{FeatureValue}
use Rattle.guppy_feature_demands.specs.Printing.{feature_text}

-- the feature, as its id prints, and a line feed
abbrev pub feature_line : FeatureValue → Text
feature_line f = feature_text f ++ codes "\n"
