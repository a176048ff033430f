use Rattle.std.proofs.Common.{◌≡◌}
use Rattle.nextest_filter_evaluation.specs.Compiled.{compiled_of, turned_over}
use Rattle.nextest_filter_evaluation.proofs.compiled_expr.CompiledExpr.turned_over.Given as goal

abbrev pub invariant-loop-self : goal.invariant-loop-self
invariant-loop-self l =
    turned_over l.self (compiled_of l.built) ≡ turned_over l.fn.self (compiled_of l.fn.innermost)
