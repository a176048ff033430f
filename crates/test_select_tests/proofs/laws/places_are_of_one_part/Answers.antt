use Rattle.test_select_tests.proofs.PartFacts.{of_one_part}
use Rattle.test_select_tests.proofs.laws.places_are_of_one_part.Goals as goal

pub returns : goal.returns
returns c = record { one = of_one_part }
