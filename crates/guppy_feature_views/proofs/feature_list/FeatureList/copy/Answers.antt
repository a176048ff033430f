use Rattle.std.proofs.Common.{◌≡◌, ◌∙◌, Contains, List, IfOk, Result, Ok, Err, ap, subst}
use Rattle.workspace_record.specs.Features.{LabelValue}
use Rattle.guppy_feature_views.specs.Labels.{AreLabels, Ascend}
use Rattle.guppy_feature_views.specs.ListValues.{ListValue}
use Rattle.guppy_feature_views.proofs.LabelFacts.{same_labels}
use Rattle.guppy_feature_views.proofs.feature_list.FeatureList.copy.Goals as goal

one_list : (l m : ListValue) → m.graph ≡ l.graph → m.place ≡ l.place → m.labels ≡ l.labels → m ≡ l
one_list l m graph place labels = ap (λ g. record { graph = g; place = m.place; labels = m.labels }) graph ∙ ap (λ p. record { graph = l.graph; place = p; labels = m.labels }) place ∙ ap (λ ls. record { graph = l.graph; place = l.place; labels = ls }) labels

copied : {E : Type 0} (l : ListValue) (labels : List LabelValue) (r : Result ListValue E) → labels ≡ l.labels → Ascend l.labels → IfOk r (λ m. m.graph ≡ l.graph) → IfOk r (λ m. m.place ≡ l.place) → IfOk r (λ m. AreLabels (Contains labels) m.labels) → IfOk r (λ m. m ≡ l)
copied l labels (Ok m) is up graph place are = one_list l m graph place (same_labels l.labels m.labels up (subst (λ ls. AreLabels (Contains ls) m.labels) is are))
copied l labels (Err e) is up graph place are = graph

pub returns : goal.returns
returns c =
    let l = c.args.self.now in
    let r = c.new.result in
    let graph : IfOk r (λ m. m.graph ≡ l.graph) = subst (λ (k : ListValue). IfOk r (λ m. m.graph ≡ k.graph)) c.self.view_is c.new.ensures.graph in
    let place : IfOk r (λ m. m.place ≡ l.place) = subst (λ (k : ListValue). IfOk r (λ m. m.place ≡ k.place)) c.self.view_is c.new.ensures.place in
    record { same = copied l _ r c.labels.ensures.value c.labels.ensures.ascending graph place c.new.ensures.labels }
