use Rattle.nextest_filter_matchers.proofs.WalkFacts.{unset_at}
use Rattle.nextest_filter_matchers.proofs.glob_walk.walks_by_few.Goals as goal

pub leads_through-requires-clause-unset : goal.leads_through-requires-clause-unset
leads_through-requires-clause-unset c i = unset_at 256 i
