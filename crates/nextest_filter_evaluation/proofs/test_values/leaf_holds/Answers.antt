use Rattle.nextest_filter_evaluation.proofs.SetFacts.{contains_id}
use Rattle.nextest_filter_evaluation.proofs.test_values.leaf_holds.Goals as goal

pub returns-in-Packages-clause-holds : goal.returns-in-Packages-clause-holds
returns-in-Packages-clause-holds g c = rw (c.in-Packages.is, c.contains.ensures) (contains_id c.in-Packages.ids _)
