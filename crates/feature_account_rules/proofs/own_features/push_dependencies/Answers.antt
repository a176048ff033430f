use Rattle.std.proofs.Common.{[], ◌∷◌, ◌∙◌, Global, List, String, ap, map, string_bytes}
use Rattle.std.proofs.lemmas.List.{map-append}
use Rattle.workspace_record.specs.Features.{FeatureValue}
use Rattle.workspace_record.specs.Records.{Text}
use Rattle.feature_account_rules.specs.RuleList.{dep_of}
use Rattle.feature_account_rules.proofs.PushFacts.{parts_of_map, pushed_all, pushed_more}
use Rattle.feature_account_rules.proofs.own_features.push_dependencies.Goals as goal

-- the features of the dependencies of these names
abbrev deps : Text → List (String Global) → List FeatureValue
deps id names = map (dep_of id) (map string_bytes names)

pub loop-name-preserved : goal.loop-name-preserved
loop-name-preserved c =
    let id = c.args.id.now in
    let is = c.dep.ensures.feature ∙ ap (dep_of id) c.as_str.ensures.value in
    pushed_more (deps id) (parts_of_map (map (dep_of id)) string_bytes (map-append (dep_of id))) _ _ _ _ c.args.names.now c.loop-name.name-index c.name-item.result c.loop-name-test.true c.name-item.is c.loop-name.invariant c.in_ok-push.ensures.items (ap (λ f. f ∷ []) is)

pub returns : goal.returns
returns c = pushed_all (deps c.args.id.now) _ _ c.args.names.now c.loop-name.name-index c.loop-name-test.false c.loop-name.invariant
