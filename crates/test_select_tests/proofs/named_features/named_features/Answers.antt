use Rattle.test_select_tests.proofs.NamedFacts.{named_as}
use Rattle.test_select_tests.proofs.named_features.named_features.Goals as goal

pub returns : goal.returns
returns c = named_as c.args.on.now _ (rw c.as_slice.ensures.value at c.in_ok-named.ensures)
