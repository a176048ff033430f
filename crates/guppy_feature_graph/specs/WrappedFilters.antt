-- Filters that take more than their base does.
use Rattle.std.specs.Prelude.{Bool, false, List}
use Rattle.std.specs.List.{list_any}
use Rattle.std.specs.Str.{bytes_eq}
use Rattle.workspace_record.specs.Records.{Text}
use Rattle.workspace_record.specs.Features.{LabelValue, Base, Named, Dep, FeatureValue, feature_eq}

-- the label is one of these names
abbrev pub is_named_so : List Text → LabelValue → Bool
is_named_so names Base = false
is_named_so names (Named name) = list_any (λ n. bytes_eq n name) names
is_named_so names (Dep name) = false

-- the feature is one of these
abbrev pub is_listed : List FeatureValue → FeatureValue → Bool
is_listed features f = list_any (λ x. feature_eq x f) features
