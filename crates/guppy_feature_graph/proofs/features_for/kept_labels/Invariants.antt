use Rattle.std.proofs.Common.{◌≡◌, filter, map, take}
use Rattle.guppy_feature_demands.specs.LabelViews.{label_view}
use Rattle.guppy_feature_graph.specs.FeaturesFor.{has_label}
use Rattle.guppy_feature_graph.proofs.features_for.kept_labels.Given as goal

abbrev pub invariant-loop-label : goal.invariant-loop-label
invariant-loop-label l = map label_view l.kept.items ≡ filter (has_label l.set l.id) (map label_view (take l.label-index l.labels))
