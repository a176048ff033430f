use Rattle.std.proofs.Common.{[], ◌∷◌, ◌∙◌, Global, List, String, ap, append-nil, filter, map, string_bytes, sym}
use Rattle.std.proofs.lemmas.Bool.{cond-false, cond-true}
use Rattle.std.proofs.lemmas.List.{map-append}
use Rattle.std.proofs.lemmas.List.Elements.{filter-append}
use Rattle.workspace_record.specs.Features.{FeatureValue}
use Rattle.workspace_record.specs.Records.{Package, Text}
use Rattle.feature_account_rules.specs.RuleList.{has_feature, named_of}
use Rattle.feature_account_rules.proofs.PushFacts.{GivesByParts, parts_of_map, pushed_all, pushed_more}
use Rattle.feature_account_rules.proofs.rule_list.push_listed_features.Goals as goal
use Rattle.feature_account_rules.proofs.rule_list.push_listed_features.Goals.{then-has_feature+in_ok-push, else-has_feature}

-- those of the names that the package has, as features
abbrev listed : Text → Package → List (String Global) → List FeatureValue
listed id p names = map (named_of id) (filter (has_feature p) (map string_bytes names))

-- what two lists of names list is what each lists
listed-parts : (id : Text) (p : Package) → GivesByParts (listed id p)
listed-parts id p = parts_of_map (λ names. map (named_of id) (filter (has_feature p) names)) string_bytes (λ xs ys. ap (map (named_of id)) (filter-append (has_feature p) xs ys) ∙ map-append (named_of id) (filter (has_feature p) xs) (filter (has_feature p) ys))

pub loop-name-preserved : goal.loop-name-preserved
loop-name-preserved c =
    let id = c.args.id.now in
    let p = c.args.target.now in
    let name = c.name-item.result in
    let has = ap (has_feature p) (sym c.as_str.ensures.value) ∙ sym c.has_feature.ensures.answer in
    let step = λ (new more : List FeatureValue). pushed_more (listed id p) (listed-parts id p) c.args.features.now.items c.loop-name.features.items new more c.args.names.now c.loop-name.name-index name c.loop-name-test.true c.name-item.is c.loop-name.invariant in
    elim c.if-has_feature.branch [ then-has_feature+in_ok-push w ↦ step _ _ (ap (λ v. v.items) w.features-is ∙ w.in_ok-push.ensures.items) (ap (λ f. f ∷ []) (w.named.ensures.feature ∙ ap (named_of id) w.as_str-then-has_feature.ensures.value) ∙ ap (map (named_of id)) (sym (cond-true _ _ _ (has ∙ w.if-has_feature.true)))) | else-has_feature w ↦ step _ _ (ap (λ v. v.items) w.features-is ∙ sym (append-nil c.loop-name.features.items)) (ap (map (named_of id)) (sym (cond-false _ _ _ (has ∙ w.if-has_feature.false)))) ]

pub returns : goal.returns
returns c =
    pushed_all (listed c.args.id.now c.args.target.now) _ _ c.args.names.now c.loop-name.name-index c.loop-name-test.false c.loop-name.invariant
