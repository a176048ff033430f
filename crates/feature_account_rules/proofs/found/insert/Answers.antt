use Rattle.feature_account_rules.proofs.FoundFacts.{found_more}
use Rattle.feature_account_rules.proofs.found.insert.Goals as goal

pub returns : goal.returns
returns c = record { found = found_more c.args.found.now c.insert.new.self c.args.feature c.in_ok-insert.ensures.updates }
