use Rattle.std.proofs.Common.{◌↔◌, Contains, IsTrue, subst}
use Rattle.guppy_feature_demands.specs.LabelViews.{label_view}
use Rattle.guppy_feature_views.specs.ListValues.{ListValue}
use Rattle.guppy_feature_views.proofs.LabelFacts.{found_by, labels_agree, same_label}
use Rattle.guppy_feature_views.proofs.feature_list.FeatureList.contains.Goals as goal

pub returns : goal.returns
returns c = record { found = subst (λ (l : ListValue). IsTrue c.contains.result ↔ Contains l.labels (label_view c.args.label)) c.self.view_is (found_by same_label label_view labels_agree c.self.inside.labels c.args.label c.contains.result c.contains.ensures) }
