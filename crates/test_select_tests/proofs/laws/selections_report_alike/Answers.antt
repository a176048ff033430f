use Rattle.test_select_tests.proofs.ReportFacts.{report_alike}
use Rattle.test_select_tests.proofs.laws.selections_report_alike.Goals as goal

pub returns : goal.returns
returns c = record { alike = report_alike }
