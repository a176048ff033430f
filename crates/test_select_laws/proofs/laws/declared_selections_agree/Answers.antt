use Rattle.test_select_laws.proofs.AgreeFacts.{selections_agree}
use Rattle.test_select_laws.proofs.laws.declared_selections_agree.Goals as goal

pub returns : goal.returns
returns c = record { agree = selections_agree }
