use Rattle.std.proofs.Common.{◌≡◌, Contains, IsTrue, ◌↔◌, subst, sym}
use Rattle.feature_account.specs.Accounts.{concluded_set}
use Rattle.feature_account.proofs.ConcludedFacts.{concluded_iff}
use Rattle.test_select_rules.proofs.features.FeaturesOn.contains_counted.Goals as goal

pub returns-clause-answer : goal.returns-clause-answer
returns-clause-answer g c =
    let on = c.args.self.now in
    let feature = c.args.feature.now in
    let is : c.finds_counted.result ≡ concluded_set on feature = cc in
    subst (λ b. IsTrue b ↔ Contains on feature) (sym is) (concluded_iff on feature)
