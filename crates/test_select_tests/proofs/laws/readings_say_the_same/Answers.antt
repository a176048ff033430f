use Rattle.test_select_tests.proofs.ReadingFacts.{say_the_same}
use Rattle.test_select_tests.proofs.laws.readings_say_the_same.Goals as goal

pub returns : goal.returns
returns c = record { same = say_the_same }
