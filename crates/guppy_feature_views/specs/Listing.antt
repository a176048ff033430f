-- The features that a list gives.
use Rattle.std.specs.Prelude.{◌≡◌, List}
use Rattle.workspace_record.specs.Features.{FeatureValue}
use Rattle.guppy_package_table.specs.Tables.{id_at}
use Rattle.guppy_feature_views.specs.Labels.{features_with}
use Rattle.guppy_feature_views.specs.ListValues.{ListValue}

-- the features of the list's package that have its labels, in their order
abbrev pub Lists : ListValue → List FeatureValue → Type 0
Lists l features = features ≡ features_with (id_at l.graph l.place) l.labels
