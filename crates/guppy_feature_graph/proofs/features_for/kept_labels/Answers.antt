use Rattle.std.proofs.Common.{◌≡◌, ◌∙◌, ◌++◌, ◌∷◌, [], Bool, Vec, Global, ap, get_or, if◌then◌else◌, sym}
use Rattle.guppy_feature_demands.specs.LabelViews.{label_view}
use Rattle.guppy_feature_demands.specs.declared.feature_label.FeatureLabel.TheVariants as code
use Rattle.guppy_feature_demands.specs.declared.feature_label.FeatureLabel.{FeatureLabel}
use Rattle.guppy_feature_graph.specs.FeaturesFor.{has_label}
use Rattle.guppy_feature_graph.proofs.ListFacts.{kept_label}
use Rattle.guppy_feature_graph.proofs.features_for.kept_labels.Goals.{then-has_label+in_ok-push, else-has_label}
use Rattle.guppy_feature_graph.proofs.features_for.kept_labels.Goals as goal

pub loop-label-preserved : goal.loop-label-preserved
loop-label-preserved c =
    let old = c.loop-label.kept.items in
    let label = get_or c.args.labels.now c.loop-label.label-index code.Base in
    let by = λ (b : Bool). if b then old ++ label ∷ [] else old in
    let pushed : c.if-has_label.kept.items ≡ by c.has_label.result = elim c.if-has_label.branch [
      | then-has_label+in_ok-push w ↦ ap (λ (v : Vec FeatureLabel Global). v.items) w.kept-is ∙ w.in_ok-push.ensures.items ∙ ap by (sym w.if-has_label.true)
      | else-has_label w ↦ ap (λ (v : Vec FeatureLabel Global). v.items) w.kept-is ∙ ap by (sym w.if-has_label.false)
    ] in
    kept_label label_view (has_label c.args.set.now c.args.id.now) c.args.labels.now c.loop-label.label-index code.Base c.loop-label.kept.items _ c.has_label.result c.loop-label-test.true c.has_label.ensures pushed c.loop-label.invariant
