use Rattle.std.proofs.Common.{◌≢◌, ◌∙◌, [], List, refl, rules, subst}
use Rattle.workspace_record.specs.Features.{FeatureValue}
use Rattle.feature_account.specs.Explanations.{IsExplanation}
use Rattle.feature_account_rules.specs.declared.rule.Rule.{Rule}
use Rattle.feature_account_making.proofs.Selecting.{goal_concluded}
use Rattle.feature_account_making.proofs.explaining.explanation_of.Goals as goal

pub returns-clause-found : goal.returns-clause-found
returns-clause-found c =
    let entries = c.in_ok-entries.entries.items in
    let some : entries ≢ [] = search rules in
    let same = c.deref.ensures.value ∙ c.in_ok-lent.ensures.lent in
    let explained = subst (λ (f : FeatureValue). IsExplanation c.args.rules.now f entries) c.of-goal.ensures.lent (subst (λ (rs : List Rule). IsExplanation rs c.of-goal.result entries) same (c.in_ok-entries.ensures.explains some)) in
    (λ h. goal_concluded c.args.rules.now c.args.feature.now c.args.account.now entries c.in_ok-entries.ensures.in_order explained, λ h. refl)
