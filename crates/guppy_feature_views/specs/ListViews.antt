-- Features of a list, one after the other.
use Rattle.std.specs.Prelude.{List, map}
use Rattle.std.specs.Slice.Iter.{iter_rest}
use Rattle.std.specs.Vec.Iter.{into_iter_items}
use Rattle.workspace_record.specs.Records.{Text}
use Rattle.workspace_record.specs.Features.{FeatureValue, LabelValue}
use Rattle.guppy_feature_demands.specs.LabelViews.{label_view}
use Rattle.guppy_feature_views.specs.Labels.{features_with, names_of}
use Rattle.guppy_feature_views.specs.declared.display_features.DisplayFeatures.{DisplayFeatures}
use Rattle.guppy_feature_views.specs.declared.into_iter.IntoIter.{IntoIter}
use Rattle.guppy_feature_views.specs.declared.iter.Iter.{Iter}
use Rattle.guppy_feature_views.specs.declared.label_names.LabelNames.{LabelNames}

-- the features that are still to come
abbrev pub features_left : Iter → List FeatureValue
features_left i = features_with i.package_id.now (map label_view (iter_rest i.labels))

abbrev pub owned_features_left : IntoIter → List FeatureValue
owned_features_left i = features_with i.package_id.now (map label_view (into_iter_items i.labels))

-- the names that are still to come
abbrev pub names_left : LabelNames → List Text
names_left n = names_of n.kind (map label_view (iter_rest n.labels))

-- the labels that are printed
abbrev pub printed_labels : DisplayFeatures → List LabelValue
printed_labels d = map label_view d.labels.now
