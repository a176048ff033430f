use Rattle.std.proofs.Common.{◌↔◌, ◌∙◌, IfOk, IsTrue, List, subst}
use Rattle.workspace_record.specs.Features.{FeatureValue}
use Rattle.feature_account.specs.Accounts.{concludes}
use Rattle.feature_account_rules.specs.Closed.{IsOn}
use Rattle.feature_account_rules.specs.declared.rule.Rule.{Rule}
use Rattle.feature_account_making.proofs.making.account_of.Goals as goal

pub returns-clause-on : goal.returns-clause-on
returns-clause-on c =
    let same = c.deref.ensures.value ∙ c.in_ok-lent.ensures.lent in
    subst (λ (rs : List Rule). IfOk c.account_of_lent.result (λ a. (f : FeatureValue) → IsTrue (concludes rs a.rules.items f) ↔ IsOn rs f)) same c.account_of_lent.ensures.on
