use Rattle.test_select_tests.proofs.PartFacts.{nothing_shared}
use Rattle.test_select_tests.proofs.laws.parts_share_nothing.Goals as goal

pub returns : goal.returns
returns c = record { nothing = nothing_shared }
