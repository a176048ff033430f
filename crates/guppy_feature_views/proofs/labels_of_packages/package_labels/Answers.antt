use Rattle.std.proofs.Common.{◌∙◌, ◌++◌, ◌∷◌, ap, append-nil, map, string_bytes, sym, take_all}
use Rattle.workspace_record.specs.Features.{Base, Named, Dep}
use Rattle.workspace_record.specs.Records.{FeatureEntry, Package}
use Rattle.guppy_feature_views.proofs.labels_of_packages.package_labels.Goals as goal

pub loop-name-init : goal.loop-name-init
loop-name-init c =
    let named = λ (f : FeatureEntry). Named f.name in
    let all = take_all c.loop-feature.feature-index c.deref-named.result.now c.loop-feature-test.false ∙ c.deref-named.ensures.value ∙ ap (λ (p : Package). p.features) c.row.view_is in
    c.loop-feature.invariant ∙ ap (λ fs. Base ∷ map named fs) all ∙ ap (λ ls. Base ∷ ls) (sym (append-nil (map named c.args.row.now.features)))

pub returns : goal.returns
returns c =
    let named = map (λ (f : FeatureEntry). Named f.name) c.args.row.now.features in
    let all = ap (map string_bytes) (take_all c.loop-name.name-index c.deref-optional.result.now c.loop-name-test.false ∙ c.deref-optional.ensures.value) ∙ ap (λ (p : Package). p.optional) c.row.view_is in
    record { labels = c.loop-name.invariant ∙ ap (λ ns. Base ∷ (named ++ map Dep ns)) all }
