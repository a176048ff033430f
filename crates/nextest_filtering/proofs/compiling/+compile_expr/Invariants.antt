use Rattle.std.proofs.Common.{◌≡◌, ◌≤◌, true, List}
use Rattle.nextest_filter_tokens.specs.declared.parse_error.ParseSingleError.{ParseSingleError}
use Rattle.nextest_filter_evaluation.specs.Compiled.{Leaf, turned_over}
use Rattle.nextest_filter_evaluation.specs.Formulas.{Formula, has_leaf}
use Rattle.nextest_filter_syntax.specs.declared.parsed_expr.ParsedExpr.{size-ParsedExpr}
use Rattle.nextest_filtering.specs.Acceptance.{names_group}
use Rattle.nextest_filtering.specs.Compiling.{AddsReversed, IsCompiled}
use Rattle.nextest_filtering.specs.Filters.{filter_of}
use Rattle.nextest_filtering.proofs.compiling.+compile_expr.Given as goal

abbrev pub invariant-loop-rest : goal.invariant-loop-rest
invariant-loop-rest l = record {
  no_deeper : size-ParsedExpr _ l.rest ≤ size-ParsedExpr _ l.fn.expr;
  groups : has_leaf names_group (filter_of l.rest) ≡ true → has_leaf names_group (filter_of l.fn.expr) ≡ true;
  compiled : (m : Formula Leaf) → IsCompiled l.cx (filter_of l.rest) m → IsCompiled l.cx (filter_of l.fn.expr) (turned_over l.above m);
  faults : (new : List ParseSingleError) → AddsReversed l.cx l.groups (filter_of l.rest) l.errors.items new → AddsReversed l.cx l.groups (filter_of l.fn.expr) l.fn.errors.items new;
}
