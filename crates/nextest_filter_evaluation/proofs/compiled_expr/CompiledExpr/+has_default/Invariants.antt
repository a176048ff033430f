use Rattle.std.proofs.Common.{◌≡◌, ◌≤◌}
use Rattle.nextest_filter_evaluation.specs.Formulas.{has_leaf}
use Rattle.nextest_filter_evaluation.specs.Compiled.{compiled_of, is_default}
use Rattle.nextest_filter_evaluation.specs.declared.compiled_expr.CompiledExpr.{size-CompiledExpr}
use Rattle.nextest_filter_evaluation.proofs.compiled_expr.CompiledExpr.+has_default.Given as goal

abbrev pub decreases-has_default : goal.decreases-has_default
decreases-has_default l = goal.size-has_default l

abbrev pub invariant-loop-rest : goal.invariant-loop-rest
invariant-loop-rest l = record {
  no_deeper : size-CompiledExpr l.rest ≤ size-CompiledExpr l.fn.self;
  same : has_leaf is_default (compiled_of l.rest) ≡ has_leaf is_default (compiled_of l.fn.self);
}
