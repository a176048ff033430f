use Rattle.test_select_tests.proofs.PartFacts.{parts_together}
use Rattle.test_select_tests.proofs.laws.parts_are_the_whole.Goals as goal

pub returns : goal.returns
returns c = record { whole = parts_together }
