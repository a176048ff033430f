use Rattle.std.proofs.Common.{[], ◌∷◌, List, ap, refl}
use Rattle.feature_account_rules.specs.declared.rule.Rule.{Rule}
use Rattle.feature_account_rules.proofs.PushFacts.{pushed_all, pushed_more}
use Rattle.feature_account_rules.proofs.lent_rule.lend_rules.Goals as goal

pub loop-rule-preserved : goal.loop-rule-preserved
loop-rule-preserved c =
    pushed_more (λ (xs : List Rule). xs) (λ xs ys. refl) [] _ _ _ c.args.rules.now c.loop-rule.rule-index c.rule-item.result c.loop-rule-test.true c.rule-item.is c.loop-rule.invariant c.in_ok-push.ensures.items (ap (λ r. r ∷ []) c.of.ensures.lent)

pub returns : goal.returns
returns c = record {
  lent = pushed_all (λ (xs : List Rule). xs) [] _ c.args.rules.now c.loop-rule.rule-index c.loop-rule-test.false c.loop-rule.invariant;
}
