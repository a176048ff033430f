use Rattle.std.proofs.Common.{◌≡◌, ◌≤◌, true, false, IsTrue}
use Rattle.nextest_binaries.specs.Queries.{test_of}
use Rattle.nextest_filter_evaluation.specs.Formulas.{Holds, has_leaf}
use Rattle.nextest_filter_evaluation.specs.Compiled.{compiled_of, has_pattern, is_group}
use Rattle.nextest_filter_evaluation.specs.Meaning.{LeafHolds}
use Rattle.nextest_filter_evaluation.specs.declared.compiled_expr.CompiledExpr.{size-CompiledExpr}
use Rattle.nextest_filter_evaluation.proofs.FormulaFacts.{SaysTurned}
use Rattle.nextest_filter_evaluation.proofs.compiled_expr.CompiledExpr.+value_of.Given as goal

abbrev pub decreases-value_of : goal.decreases-value_of
decreases-value_of g l = goal.size-value_of g l

abbrev pub invariant-loop-rest : goal.invariant-loop-rest
invariant-loop-rest g l = record {
  no_deeper : size-CompiledExpr l.rest ≤ size-CompiledExpr l.fn.self;
  says : SaysTurned l.negated (Holds (LeafHolds (g.G.GroupLookup.member l.groups (test_of l.query)) (IsTrue l.default) (test_of l.query)) (compiled_of l.rest)) (Holds (LeafHolds (g.G.GroupLookup.member l.groups (test_of l.query)) (IsTrue l.default) (test_of l.query)) (compiled_of l.fn.self));
  patterns : has_leaf has_pattern (compiled_of l.fn.self) ≡ false → has_leaf has_pattern (compiled_of l.rest) ≡ false;
  groups : has_leaf is_group (compiled_of l.rest) ≡ true → has_leaf is_group (compiled_of l.fn.self) ≡ true;
}
