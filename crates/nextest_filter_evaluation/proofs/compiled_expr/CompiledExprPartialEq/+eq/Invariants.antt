use Rattle.std.proofs.Common.{◌≡◌, ◌≤◌}
use Rattle.nextest_filter_evaluation.specs.declared.compiled_expr.CompiledExpr.{size-CompiledExpr}
use Rattle.nextest_filter_evaluation.specs.contracts.compiled_expr.CompiledExprPartialEq.TheImpl.{ghosts}
use Rattle.nextest_filter_evaluation.proofs.compiled_expr.CompiledExprPartialEq.+eq.Given as goal

abbrev pub invariant-loop-rest : goal.invariant-loop-rest
invariant-loop-rest l = record {
  no_deeper : size-CompiledExpr l.rest ≤ size-CompiledExpr l.fn.self;
  other_no_deeper : size-CompiledExpr l.other ≤ size-CompiledExpr l.fn.other;
  same : ghosts.eq l.rest l.other ≡ ghosts.eq l.fn.self l.fn.other;
}
