use Rattle.feature_account_making.proofs.OnFacts.{explained_so}
use Rattle.feature_account_making.proofs.concluding.explained_by.Goals as goal

pub returns-clause-found : goal.returns-clause-found
returns-clause-found c =
    explained_so c.args.rules.now c.in_ok-account.account.rules.items c.deref.result.now c.args.feature.now c.explanation_of.result c.deref.ensures.value (c.in_ok-account.ensures.on c.args.feature.now) c.explanation_of.ensures.found
