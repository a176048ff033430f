use Rattle.std.proofs.Common.{◌≡◌, ◌≤◌, ◌+◌, ℕ, length}
use Rattle.nextest_filter_evaluation.specs.Compiled.{compiled_of}
use Rattle.nextest_filter_evaluation.specs.Formulas.{Formula}
use Rattle.nextest_filter_evaluation.specs.declared.compiled_expr.CompiledExpr.{size-CompiledExpr}
use Rattle.nextest_filter_evaluation.specs.Ready.{IsReady, Question, turned_over}
use Rattle.nextest_filter_evaluation.specs.Searches.{HasAt, searches}
use Rattle.nextest_filter_evaluation.proofs.reducing.+reduced_before.Given as goal

abbrev pub decreases-reduced_before : goal.decreases-reduced_before
decreases-reduced_before l = goal.size-reduced_before l

abbrev pub invariant-loop-rest : goal.invariant-loop-rest
invariant-loop-rest l = record {
  no_deeper : size-CompiledExpr l.rest ≤ size-CompiledExpr l.fn.filter;
  place : l.before + length (searches (compiled_of l.fn.filter)) ≡ l.fn.end + length (searches (compiled_of l.rest));
  room : length (searches (compiled_of l.rest)) ≤ l.before;
  ready : (r : Formula Question) (start : ℕ) → start + length (searches (compiled_of l.rest)) ≡ l.before → IsReady l.cx (λ all. HasAt all start (searches (compiled_of l.rest))) (compiled_of l.rest) r → IsReady l.cx (λ all. HasAt all start (searches (compiled_of l.fn.filter))) (compiled_of l.fn.filter) (turned_over l.above r);
}
