use Rattle.test_select_tests.proofs.GroupFacts.{groups_of_ascending}
use Rattle.test_select_tests.proofs.laws.groups_ascend.Goals as goal

pub returns : goal.returns
returns c = record { ascend = groups_of_ascending }
