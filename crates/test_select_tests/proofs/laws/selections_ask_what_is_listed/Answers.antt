use Rattle.test_select_tests.proofs.ReportFacts.{asked_as_listed}
use Rattle.test_select_tests.proofs.laws.selections_ask_what_is_listed.Goals as goal

pub returns : goal.returns
returns c = record { asked = asked_as_listed }
