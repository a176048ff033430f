use Rattle.test_select_tests.proofs.ReportFacts.{listed_suffice}
use Rattle.test_select_tests.proofs.laws.listed_binaries_suffice.Goals as goal

pub returns : goal.returns
returns c = record { suffice = listed_suffice }
