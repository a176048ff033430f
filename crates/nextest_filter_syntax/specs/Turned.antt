-- Filters whose left side was built from the outside in, with a leaf where the innermost operand goes.
use Rattle.std.specs.Prelude.{◌++◌}
use Rattle.nextest_filter_syntax.specs.Leaves.{Patterns}
use Rattle.nextest_filter_syntax.specs.declared.parsed_expr.ParsedExpr.{ParsedExpr, Not', Union', Intersection', Difference', Parens', Set}
use Rattle.nextest_filter_syntax.specs.Trees.{Tree, not_of, union_of, intersection_of, difference_of, parens_of, patterns_of, tree_of}

-- the tree round its innermost operand
abbrev pub turned_tree : {S : Type 0} → ParsedExpr S → Tree S → Tree S
turned_tree (Not' op p x) t = turned_tree x (not_of op t)
turned_tree (Union' op p x q y) t = turned_tree x (union_of op t (tree_of y))
turned_tree (Intersection' op p x q y) t = turned_tree x (intersection_of op t (tree_of y))
turned_tree (Difference' op p x q y) t = turned_tree x (difference_of t (tree_of y))
turned_tree (Parens' p x) t = turned_tree x (parens_of t)
turned_tree (Set l) t = t

-- the patterns of the innermost operand, and those to the right of it
abbrev pub turned_patterns : {S : Type 0} → ParsedExpr S → Patterns → Patterns
turned_patterns (Not' op p x) inner = turned_patterns x inner
turned_patterns (Union' op p x q y) inner = turned_patterns x (inner ++ patterns_of y)
turned_patterns (Intersection' op p x q y) inner = turned_patterns x (inner ++ patterns_of y)
turned_patterns (Difference' op p x q y) inner = turned_patterns x (inner ++ patterns_of y)
turned_patterns (Parens' p x) inner = turned_patterns x inner
turned_patterns (Set l) inner = inner
