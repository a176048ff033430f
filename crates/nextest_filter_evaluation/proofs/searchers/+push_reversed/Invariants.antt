use Rattle.std.proofs.Common.{◌≡◌, ◌≤◌, ◌++◌, map, reverse}
use Rattle.regex.specs.Strings.{matcher_pattern}
use Rattle.nextest_filter_evaluation.specs.Compiled.{compiled_of}
use Rattle.nextest_filter_evaluation.specs.declared.compiled_expr.CompiledExpr.{size-CompiledExpr}
use Rattle.nextest_filter_evaluation.specs.Searches.{searches}
use Rattle.nextest_filter_evaluation.proofs.searchers.+push_reversed.Given as goal

abbrev pub decreases-push_reversed : goal.decreases-push_reversed
decreases-push_reversed l = goal.size-push_reversed l

abbrev pub invariant-loop-rest : goal.invariant-loop-rest
invariant-loop-rest l = record {
  no_deeper : size-CompiledExpr l.rest ≤ size-CompiledExpr l.fn.filter;
  pushed : map matcher_pattern l.searchers.items ++ reverse (searches (compiled_of l.rest)) ≡ map matcher_pattern l.fn.searchers.items ++ reverse (searches (compiled_of l.fn.filter));
}
