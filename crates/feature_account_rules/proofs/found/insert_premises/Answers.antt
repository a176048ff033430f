use Rattle.std.proofs.Common.{ap}
use Rattle.feature_account_rules.specs.LentPremises.{lent_premises_view}
use Rattle.feature_account_rules.proofs.FoundFacts.{found_two}
use Rattle.feature_account_rules.specs.Found.{found_set}
use Rattle.feature_account_rules.proofs.found.insert_premises.Goals as goal

pub returns-in_ok-insert-in-Two : goal.returns-in_ok-insert-in-Two
returns-in_ok-insert-in-Two c = record {
  found = found_two c.insert-in-Two-2.result (lent_premises_view c.args.premises.now) c.in-Two.a c.in-Two.b (found_set c.args.found.now) (found_set c.insert-in-Two.new.found) (found_set c.insert-in-Two-2.new.found) (ap lent_premises_view c.in-Two.is) c.in_ok-insert-in-Two.ensures.found c.insert-in-Two-2.ensures.found;
}
