use Rattle.std.proofs.Common.{List, Contains, map, subst}
use Rattle.guppy_feature_demands.specs.LabelViews.{label_view}
use Rattle.guppy_feature_demands.specs.declared.feature_label.FeatureLabel.{FeatureLabel}
use Rattle.guppy_feature_views.specs.Labels.{AreLabels}
use Rattle.guppy_feature_views.proofs.LabelFacts.{labels_ascend, labels_held}
use Rattle.guppy_feature_views.proofs.feature_list.FeatureList.new.Goals as goal

pub invariant_of-result : goal.invariant_of-result
invariant_of-result c = labels_ascend c.new-labels.result c.new-labels.ensures.ascending

pub returns-clause-labels : goal.returns-clause-labels
returns-clause-labels c = subst (λ (xs : List FeatureLabel). AreLabels (Contains (map label_view xs)) (map label_view c.new-labels.result)) c.in_ok-copied.ensures.items (labels_held c.in_ok-copied.copied.items c.new-labels.result c.new-labels.ensures)
