use Rattle.test_select_laws.proofs.AcceptedFacts.{texts_agree}
use Rattle.test_select_laws.proofs.laws.accepted_texts_agree.Goals as goal

pub returns : goal.returns
returns c = record { agree = texts_agree }
