use Rattle.std.proofs.Common.{◌∙◌, ◌++◌, ◌∷◌, [], ap, append-nil, append_assoc, map, string_bytes, sym, take_all}
use Rattle.workspace_record.specs.Records.{FeatureEntry, Package}
use Rattle.guppy_feature_demands.specs.IdViews.{id_view}
use Rattle.guppy_feature_demands.specs.Nodes.{base_of, dep_of, named_of}
use Rattle.guppy_feature_demands.proofs.nodes.push_features.Goals as goal

pub loop-name-init : goal.loop-name-init
loop-name-init c =
    let id = c.args.at.id.now in
    let before = map id_view c.args.features.now.items ++ base_of id ∷ [] in
    let named = λ (f : FeatureEntry). named_of id f.name in
    let all = take_all c.loop-feature.feature-index c.deref-named.result.now c.loop-feature-test.false ∙ c.deref-named.ensures.value ∙ ap (λ (p : Package). p.features) c.row.view_is in
    c.loop-feature.invariant ∙ ap (λ fs. before ++ map named fs) all ∙ sym (append-nil (before ++ map named c.args.at.row.now.features))

pub returns : goal.returns
returns c =
    let id = c.args.at.id.now in
    let row = c.args.at.row.now in
    let old = map id_view c.args.features.now.items in
    let named = map (λ (f : FeatureEntry). named_of id f.name) row.features in
    let all = ap (map string_bytes) (take_all c.loop-name.name-index c.deref-optional.result.now c.loop-name-test.false ∙ c.deref-optional.ensures.value) ∙ ap (λ (p : Package). p.optional) c.row.view_is in
    c.loop-name.invariant
    ∙ ap (λ ns. ((old ++ base_of id ∷ []) ++ named) ++ map (dep_of id) ns) all
    ∙ append_assoc (old ++ base_of id ∷ []) named (map (dep_of id) row.optional)
    ∙ append_assoc old (base_of id ∷ []) (named ++ map (dep_of id) row.optional)
    ∙ ap (λ i. old ++ base_of i ∷ (map (λ (f : FeatureEntry). named_of i f.name) row.features ++ map (dep_of i) row.optional)) c.args.at.same_id
