use Rattle.test_select_changes.proofs.TakenFacts as facts
use Rattle.test_select_changes.proofs.laws.dependents_are_taken.Goals as goal

pub returns : goal.returns
returns c = facts.dependents_are_taken
