use Rattle.std.proofs.Common.{◌∙◌, List, Some, ap, filter, map, sym}
use Rattle.guppy_feature_demands.specs.LabelViews.{label_view}
use Rattle.guppy_feature_demands.specs.declared.feature_label.FeatureLabel.{FeatureLabel}
use Rattle.guppy_package_graph.specs.Views.{graph_of, place_of}
use Rattle.guppy_feature_graph.specs.FeaturesFor.{has_label, labels_in}
use Rattle.guppy_feature_graph.proofs.ListFacts.{lists_at}
use Rattle.guppy_feature_graph.proofs.features_for.list_in.Goals as goal

pub returns : goal.returns
returns c =
    let m = c.args.«package» in
    let s = c.args.set.now in
    let view = λ (xs : List FeatureLabel). map label_view xs in
    let id = c.as_str.ensures.value ∙ ap (λ p. p.id) c.row.view_is in
    let all = ap view c.deref-2.ensures.value ∙ c.in_ok-labels.ensures.labels in
    let kept = ap view c.deref-3.ensures.value ∙ c.in_ok-kept.ensures ∙ λ i. filter (has_label s (id i)) (all i) in
    lists_at (labels_in s) (graph_of m) (place_of m) c.row-row.result.now (view c.deref-3.result.now) c.new.result (c.deref.ensures.0 ∙ ap Some (sym c.row-row.ensures)) kept c.new.ensures.graph c.new.ensures.place c.new.ensures.labels
