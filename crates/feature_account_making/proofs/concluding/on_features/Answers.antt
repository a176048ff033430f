use Rattle.std.proofs.Common.{◌∙◌, ◌↔◌, Contains, subst}
use Rattle.std.specs.Result.{IfOk}
use Rattle.workspace_record.specs.Features.{FeatureValue}
use Rattle.feature_account_rules.specs.Closed.{IsOn}
use Rattle.feature_account_making.proofs.concluding.on_features.Goals as goal

pub returns-clause-on : goal.returns-clause-on
returns-clause-on c =
    subst (λ rules. IfOk c.on_by.result (λ on. (f : FeatureValue) → Contains on f ↔ IsOn rules f)) (c.deref.ensures.value ∙ c.in_ok-rules.ensures.listed) c.on_by.ensures.on
