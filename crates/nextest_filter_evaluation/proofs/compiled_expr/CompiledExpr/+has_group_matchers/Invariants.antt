use Rattle.std.proofs.Common.{◌≡◌, ◌≤◌}
use Rattle.nextest_filter_evaluation.specs.Formulas.{has_leaf}
use Rattle.nextest_filter_evaluation.specs.Compiled.{compiled_of, is_group}
use Rattle.nextest_filter_evaluation.specs.declared.compiled_expr.CompiledExpr.{size-CompiledExpr}
use Rattle.nextest_filter_evaluation.proofs.compiled_expr.CompiledExpr.+has_group_matchers.Given as goal

abbrev pub decreases-has_group_matchers : goal.decreases-has_group_matchers
decreases-has_group_matchers l = goal.size-has_group_matchers l

abbrev pub invariant-loop-rest : goal.invariant-loop-rest
invariant-loop-rest l = record {
  no_deeper : size-CompiledExpr l.rest ≤ size-CompiledExpr l.fn.self;
  same : has_leaf is_group (compiled_of l.rest) ≡ has_leaf is_group (compiled_of l.fn.self);
}
