use Rattle.std.proofs.Common.{arith}
use Rattle.nextest_filter_evaluation.specs.Compiled.{compiled_of}
use Rattle.nextest_filter_evaluation.proofs.ReducingFacts.{ready_from}
use Rattle.nextest_filter_evaluation.proofs.reducing.reduced.Goals as goal

pub returns-clause-ready : goal.returns-clause-ready
returns-clause-ready c =
    ready_from c.args.cx.now (compiled_of c.args.filter.now) _ c.args.at _ _ c.in_ok-ready.ensures.start (omega (arith, c.searchers_count.ensures)) c.in_ok-ready.ensures.ready
