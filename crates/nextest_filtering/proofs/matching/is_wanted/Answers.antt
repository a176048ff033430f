use Rattle.nextest_filter_evaluation.proofs.SetFacts.{contains_id}
use Rattle.nextest_filtering.proofs.matching.is_wanted.Goals as goal

pub returns : goal.returns
returns c = rw c.contains.ensures (contains_id c.args.wanted.now _)
