use Rattle.std.proofs.Common.{◌≡◌, ◌≤◌, ◌+◌, length}
use Rattle.nextest_filter_evaluation.specs.Compiled.{compiled_of}
use Rattle.nextest_filter_evaluation.specs.declared.compiled_expr.CompiledExpr.{size-CompiledExpr}
use Rattle.nextest_filter_evaluation.specs.Searches.{searches}
use Rattle.nextest_filter_evaluation.proofs.reducing.+searchers_count.Given as goal

abbrev pub decreases-searchers_count : goal.decreases-searchers_count
decreases-searchers_count l = goal.size-searchers_count l

abbrev pub invariant-loop-rest : goal.invariant-loop-rest
invariant-loop-rest l = record {
  no_deeper : size-CompiledExpr l.rest ≤ size-CompiledExpr l.fn.filter;
  counted : l.count + length (searches (compiled_of l.rest)) ≡ length (searches (compiled_of l.fn.filter));
}
