use Rattle.nextest_filtering.proofs.ReachFacts.{matched_of}
use Rattle.nextest_filtering.proofs.parse_context.ParseContext.matched.Goals as goal

pub returns : goal.returns
returns c = matched_of c.args.self.now _ _ _ c.packages.ensures c.in_ok-ids.ensures
