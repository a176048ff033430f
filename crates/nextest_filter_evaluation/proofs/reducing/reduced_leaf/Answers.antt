use Rattle.nextest_filter_evaluation.proofs.SetFacts.{contains_id}
use Rattle.nextest_filter_evaluation.proofs.ReducingFacts.{flag_suits}
use Rattle.nextest_filter_evaluation.proofs.reducing.reduced_leaf.Goals as goal

pub returns-in-Packages : goal.returns-in-Packages
returns-in-Packages c patterns group name stands =
    rw (c.in-Packages.is, c.contains.ensures) (contains_id c.in-Packages.ids _)

pub returns-in-Test : goal.returns-in-Test
returns-in-Test c patterns group name stands =
    rw c.in-Test.is (c.named.ensures patterns group name (rw c.in-Test.is at stands))

pub returns-in_ok-flags-in-Group : goal.returns-in_ok-flags-in-Group
returns-in_ok-flags-in-Group c patterns group name stands =
    rw c.in-Group.is (flag_suits _ _ _ group c.in_ok-flags-in-Group.ensures)
