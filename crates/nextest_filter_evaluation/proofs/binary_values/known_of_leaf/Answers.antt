use Rattle.nextest_filter_evaluation.proofs.SetFacts.{contains_id}
use Rattle.nextest_filter_evaluation.proofs.KleeneFacts.{tells_test}
use Rattle.nextest_filter_evaluation.proofs.binary_values.known_of_leaf.Goals as goal

pub returns-in-Packages-clause-known : goal.returns-in-Packages-clause-known
returns-in-Packages-clause-known c = rw (c.in-Packages.is, c.contains.ensures) (tells_test _ _ (contains_id c.in-Packages.ids _))
