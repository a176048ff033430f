use Rattle.std.proofs.Common.{◌∙◌, ◌↔◌, IsSome, IfSome, subst}
use Rattle.std.specs.Result.{IfOk}
use Rattle.feature_account_rules.specs.Closed.{IsOn}
use Rattle.feature_account.specs.Explanations.{IsExplanation}
use Rattle.feature_account_making.specs.OfAccounts.{AreOfAccount}
use Rattle.feature_account_making.proofs.concluding.explanation.Goals as goal

pub returns-clause-found : goal.returns-clause-found
returns-clause-found c =
    subst (λ rules. IfOk c.explained_by.result (λ o. IsSome o ↔ IsOn rules c.args.feature.now)) (c.deref.ensures.value ∙ c.in_ok-rules.ensures.listed) c.explained_by.ensures.found

pub returns-clause-explains : goal.returns-clause-explains
returns-clause-explains c =
    subst (λ rules. IfOk c.explained_by.result (λ o. IfSome o (λ v. IsExplanation rules c.args.feature.now v.items))) (c.deref.ensures.value ∙ c.in_ok-rules.ensures.listed) c.explained_by.ensures.explains

pub returns-clause-in_order : goal.returns-clause-in_order
returns-clause-in_order c =
    subst (λ rules. IfOk c.explained_by.result (λ o. IfSome o (λ v. AreOfAccount rules v.items))) (c.deref.ensures.value ∙ c.in_ok-rules.ensures.listed) c.explained_by.ensures.in_order
