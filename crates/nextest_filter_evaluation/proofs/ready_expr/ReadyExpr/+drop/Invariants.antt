use Rattle.std.proofs.Common.{◌≤◌}
use Rattle.nextest_filter_evaluation.specs.declared.ready_expr.ReadyExpr.{size-ReadyExpr}
use Rattle.nextest_filter_evaluation.proofs.ready_expr.ReadyExpr.+drop.Given as goal

abbrev pub invariant-loop-self : goal.invariant-loop-self
invariant-loop-self l = size-ReadyExpr l.self ≤ size-ReadyExpr l.fn.self
