use Rattle.std.proofs.Common.{◌≡◌, ◌≤◌}
use Rattle.nextest_filter_syntax.specs.declared.parsed_expr.ParsedExpr.{size-ParsedExpr}
use Rattle.nextest_filter_syntax.specs.Trees.{patterns_of, tree_of}
use Rattle.nextest_filter_syntax.specs.Turned.{turned_patterns, turned_tree}
use Rattle.nextest_filter_syntax.proofs.parsed_expr.ParsedExpr.+copy.Given as goal

abbrev pub invariant-loop-rest : goal.invariant-loop-rest
invariant-loop-rest g l = record {
  no_deeper : size-ParsedExpr _ l.rest ≤ size-ParsedExpr _ l.fn.self;
  equal : turned_tree l.above (tree_of l.rest) ≡ tree_of l.fn.self;
  patterns : turned_patterns l.above (patterns_of l.rest) ≡ patterns_of l.fn.self;
}
