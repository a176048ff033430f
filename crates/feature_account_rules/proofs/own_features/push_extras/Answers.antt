use Rattle.std.proofs.Common.{[], ◌∷◌, List, ap, refl}
use Rattle.workspace_record.specs.Features.{FeatureValue}
use Rattle.feature_account_rules.proofs.PushFacts.{pushed_all, pushed_more}
use Rattle.feature_account_rules.proofs.own_features.push_extras.Goals as goal

pub loop-extra-preserved : goal.loop-extra-preserved
loop-extra-preserved c =
    pushed_more (λ (xs : List FeatureValue). xs) (λ xs ys. refl) _ _ _ _ c.args.extras.now c.loop-extra.extra-index c.extra-item.result c.loop-extra-test.true c.extra-item.is c.loop-extra.invariant c.in_ok-push.ensures.items (ap (λ f. f ∷ []) c.of.ensures.lent)

pub returns : goal.returns
returns c =
    pushed_all (λ (xs : List FeatureValue). xs) _ _ c.args.extras.now c.loop-extra.extra-index c.loop-extra-test.false c.loop-extra.invariant
