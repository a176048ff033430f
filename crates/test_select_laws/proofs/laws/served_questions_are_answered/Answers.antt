use Rattle.test_select_laws.proofs.ServedFacts.{served_are_answered}
use Rattle.test_select_laws.proofs.laws.served_questions_are_answered.Goals as goal

pub returns : goal.returns
returns c = record { answered = served_are_answered }
