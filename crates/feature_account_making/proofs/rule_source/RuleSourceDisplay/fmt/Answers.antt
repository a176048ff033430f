use Rattle.feature_account_making.proofs.rule_source.RuleSourceDisplay.fmt.Goals as goal

pub returns-in-Entry-clause-writes : goal.returns-in-Entry-clause-writes
returns-in-Entry-clause-writes g c = rw c.in-Entry.is c.write.ensures.writes
