use Rattle.std.proofs.Common.{◌∙◌, ◌↔◌, IsTrue, subst}
use Rattle.std.specs.Result.{IfOk}
use Rattle.workspace_record.specs.Features.{FeatureValue}
use Rattle.feature_account.specs.Accounts.{concludes}
use Rattle.feature_account_rules.specs.Closed.{IsOn}
use Rattle.test_select_features.proofs.switching.account_under.Goals as goal

pub returns-clause-on : goal.returns-clause-on
returns-clause-on c =
    subst (λ rules. IfOk c.account_of_lent.result (λ a. (f : FeatureValue) → IsTrue (concludes rules a.rules.items f) ↔ IsOn rules f)) (c.deref.ensures.value ∙ c.in_ok-rules.ensures.listed) c.account_of_lent.ensures.on
