use Rattle.test_select.proofs.RunLawFacts.{plain_prints_the_same}
use Rattle.test_select.proofs.laws.plain_prints_the_same.Goals as goal

pub returns : goal.returns
returns c = record { same = plain_prints_the_same c.selections_report_alike.ensures.alike }
