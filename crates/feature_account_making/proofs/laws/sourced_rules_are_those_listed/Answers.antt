use Rattle.feature_account_making.proofs.SourceFacts.{sourced_as_listed}
use Rattle.feature_account_making.proofs.laws.sourced_rules_are_those_listed.Goals as goal

pub returns : goal.returns
returns c = record { same = sourced_as_listed }
