use Rattle.std.proofs.Common.{arith}
use Rattle.regex.specs.Strings.{matcher_pattern}
use Rattle.nextest_filter_evaluation.proofs.ReadyFacts.{seen_alike}
use Rattle.nextest_filter_evaluation.proofs.ready_expr.is_found.Goals as goal

pub returns-clause-same : goal.returns-clause-same
returns-clause-same c =
    seen_alike matcher_pattern c.args.searchers.now c.args.place c.index-searchers-place.result c.is_match.new.self (omega (arith, c.if-place-searchers.false)) c.is_match.ensures.same
