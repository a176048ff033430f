use Rattle.std.proofs.Common.{◌≡◌, ◌≤◌, ◌++◌}
use Rattle.nextest_filter_syntax.specs.declared.parsed_expr.ParsedExpr.{size-ParsedExpr}
use Rattle.nextest_filter_syntax.specs.Runtime.{last_first, runtime_leaves}
use Rattle.nextest_filter_syntax.specs.Trees.{tree_of}
use Rattle.nextest_filter_syntax.proofs.parsed_expr.ParsedExpr.+push_from_the_right.Given as goal

abbrev pub invariant-loop-rest : goal.invariant-loop-rest
invariant-loop-rest g l = record {
  no_deeper : size-ParsedExpr _ l.rest ≤ size-ParsedExpr _ l.fn.self;
  same : runtime_leaves (tree_of l.rest) ++ last_first l.leaves.items ≡ runtime_leaves (tree_of l.fn.self) ++ last_first l.fn.leaves.items;
}
