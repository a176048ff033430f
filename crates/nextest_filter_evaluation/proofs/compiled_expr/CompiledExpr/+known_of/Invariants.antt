use Rattle.std.proofs.Common.{◌≡◌, ◌≤◌, Bool, false, Option}
use Rattle.nextest_binaries.specs.Queries.{binary_of}
use Rattle.nextest_filter_evaluation.specs.Formulas.{SomeAnswersGive, has_leaf}
use Rattle.nextest_filter_evaluation.specs.Compiled.{compiled_of, has_pattern}
use Rattle.nextest_filter_evaluation.specs.Kleene.{Tells, known_at, may_be}
use Rattle.nextest_filter_evaluation.specs.Meaning.{LeafGives}
use Rattle.nextest_filter_evaluation.specs.declared.compiled_expr.CompiledExpr.{size-CompiledExpr}
use Rattle.nextest_filter_evaluation.proofs.compiled_expr.CompiledExpr.+known_of.Given as goal

abbrev pub decreases-known_of : goal.decreases-known_of
decreases-known_of l = goal.size-known_of l

abbrev pub invariant-loop-rest : goal.invariant-loop-rest
invariant-loop-rest l = record {
  no_deeper : size-CompiledExpr l.rest ≤ size-CompiledExpr l.fn.self;
  tells : (o : Option Bool) → Tells o (SomeAnswersGive (LeafGives (may_be l.default) (binary_of l.query)) (compiled_of l.rest)) → Tells (known_at l.whole o) (SomeAnswersGive (LeafGives (may_be l.default) (binary_of l.query)) (compiled_of l.fn.self));
  patterns : has_leaf has_pattern (compiled_of l.fn.self) ≡ false → has_leaf has_pattern (compiled_of l.rest) ≡ false;
}
