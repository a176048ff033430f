use Rattle.std.proofs.Common.{◌∙◌, ap}
use Rattle.feature_account.specs.Accounts.{conclusions}
use Rattle.feature_account_making.proofs.OnFacts.{on_so}
use Rattle.feature_account_making.proofs.concluding.on_by.Goals as goal

pub returns-clause-on : goal.returns-clause-on
returns-clause-on c =
    on_so c.args.rules.now c.in_ok-account.account.rules.items c.in_ok-concluded.field-0.items c.of.result (c.in_ok-concluded.ensures ∙ ap (conclusions c.args.rules.now) c.deref.ensures.value) c.in_ok-account.ensures.on c.of.ensures.members
