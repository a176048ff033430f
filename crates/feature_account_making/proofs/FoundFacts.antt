-- What was found, and woken, by a rule's conclusion.
use Rattle.std.proofs.Common.{◌≡◌, ◌∙◌, ◌||◌, ℕ, false, Vec, Global, Bor, ap, subst}
use Rattle.indexmap.specs.IndexMap.{IndexMap}
use Rattle.indexmap.specs.IndexSet.{IndexSet}
use Rattle.workspace_record.specs.Features.{FeatureValue, feature_eq}
use Rattle.feature_account_rules.specs.Found.{found_set}
use Rattle.feature_account_making.specs.Waiting.{IsWith, waiting_at}
use Rattle.feature_account_making.specs.declared.rule_queue.RuleQueue.{RuleQueue}

module _ (c d : FeatureValue) (same : d ≡ c) where
  -- the rule's conclusion is found
  pub found_rule : {S : Type 0} (old new : IndexSet (Bor FeatureValue) S) → ((f : FeatureValue) → found_set new f ≡ (found_set old f || (feature_eq f d || false))) → (f : FeatureValue) → found_set new f ≡ (found_set old f || (feature_eq f c || false))
  found_rule old new found f = found f ∙ ap (λ g. found_set old f || (feature_eq f g || false)) same

  -- those that wait for the rule's conclusion are woken
  pub woken_rule : {S : Type 0} (waiting : IndexMap (Bor FeatureValue) (Vec ℕ Global) S) (old new : RuleQueue) → IsWith old (waiting_at waiting d) new → IsWith old (waiting_at waiting c) new
  woken_rule waiting old new woken = subst (λ g. IsWith old (waiting_at waiting g) new) same woken
