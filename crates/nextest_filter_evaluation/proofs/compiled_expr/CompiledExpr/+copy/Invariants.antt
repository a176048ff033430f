use Rattle.std.proofs.Common.{◌≡◌, ◌≤◌}
use Rattle.nextest_filter_evaluation.specs.Compiled.{compiled_of, turned_over}
use Rattle.nextest_filter_evaluation.specs.declared.compiled_expr.CompiledExpr.{size-CompiledExpr}
use Rattle.nextest_filter_evaluation.proofs.compiled_expr.CompiledExpr.+copy.Given as goal

abbrev pub decreases-copy : goal.decreases-copy
decreases-copy l = goal.size-copy l

abbrev pub invariant-loop-rest : goal.invariant-loop-rest
invariant-loop-rest l = record {
  no_deeper : size-CompiledExpr l.rest ≤ size-CompiledExpr l.fn.self;
  same : turned_over l.above (compiled_of l.rest) ≡ compiled_of l.fn.self;
}
