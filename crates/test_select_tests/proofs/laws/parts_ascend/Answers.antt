use Rattle.test_select_tests.proofs.PartFacts.{part_ascends}
use Rattle.test_select_tests.proofs.laws.parts_ascend.Goals as goal

pub returns : goal.returns
returns c = record { ascend = part_ascends }
