use Rattle.std.proofs.Common.{◌≤◌}
use Rattle.nextest_filter_evaluation.specs.declared.compiled_expr.CompiledExpr.{size-CompiledExpr}
use Rattle.nextest_filter_evaluation.proofs.compiled_expr.CompiledExpr.+drop.Given as goal

abbrev pub invariant-loop-self : goal.invariant-loop-self
invariant-loop-self l = size-CompiledExpr l.self ≤ size-CompiledExpr l.fn.self
