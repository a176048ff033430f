use Rattle.nextest_filter_evaluation.proofs.ReducingFacts.{has_whole}
use Rattle.nextest_filter_evaluation.proofs.ready_expr.ReadyExpr.new.Goals as goal

pub returns : goal.returns
returns c = record {
  ready = λ patterns group name same. c.in_ok-ready.ensures.ready patterns group name (has_whole patterns _ same);
}
