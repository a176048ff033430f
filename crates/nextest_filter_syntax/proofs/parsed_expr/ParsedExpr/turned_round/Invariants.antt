use Rattle.std.proofs.Common.{◌≡◌}
use Rattle.nextest_filter_syntax.specs.Trees.{patterns_of, tree_of}
use Rattle.nextest_filter_syntax.specs.Turned.{turned_patterns, turned_tree}
use Rattle.nextest_filter_syntax.proofs.parsed_expr.ParsedExpr.turned_round.Given as goal

abbrev pub invariant-loop-self : goal.invariant-loop-self
invariant-loop-self g l = record {
  equal : turned_tree l.self (tree_of l.built) ≡ turned_tree l.fn.self (tree_of l.fn.innermost);
  patterns : turned_patterns l.self (patterns_of l.built) ≡ turned_patterns l.fn.self (patterns_of l.fn.innermost);
}
