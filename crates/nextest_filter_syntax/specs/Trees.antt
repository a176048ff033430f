-- Filters as plain trees.
use Rattle.std.specs.Prelude.{◌++◌}
use Rattle.nextest_filter_tokens.specs.declared.operator_signs.NotOperator.{NotOperator}
use Rattle.nextest_filter_tokens.specs.declared.operator_signs.OrOperator.{OrOperator}
use Rattle.nextest_filter_tokens.specs.declared.operator_signs.AndOperator.{AndOperator}
use Rattle.nextest_filter_syntax.specs.Leaves.{Leaf, Patterns, leaf_of, leaf_patterns}
use Rattle.nextest_filter_syntax.specs.declared.parsed_expr.ParsedExpr.{ParsedExpr, Not', Union', Intersection', Difference', Parens', Set}

pub data Tree (S : Type 0) : Type 0 where
  not_of : NotOperator → Tree S → Tree S
  union_of : OrOperator → Tree S → Tree S → Tree S
  intersection_of : AndOperator → Tree S → Tree S → Tree S
  difference_of : Tree S → Tree S → Tree S
  parens_of : Tree S → Tree S
  set_of : Leaf S → Tree S

-- a filter as a plain tree (from nextest's documents)
abbrev pub tree_of : {S : Type 0} → ParsedExpr S → Tree S
tree_of (Not' op p x) = not_of op (tree_of x)
tree_of (Union' op p x q y) = union_of op (tree_of x) (tree_of y)
tree_of (Intersection' op p x q y) = intersection_of op (tree_of x) (tree_of y)
tree_of (Difference' op p x q y) = difference_of (tree_of x) (tree_of y)
tree_of (Parens' p x) = parens_of (tree_of x)
tree_of (Set l) = set_of (leaf_of l)

-- the patterns of a filter from left to right, with what `regex` made of their texts
abbrev pub patterns_of : {S : Type 0} → ParsedExpr S → Patterns
patterns_of (Not' op p x) = patterns_of x
patterns_of (Union' op p x q y) = patterns_of x ++ patterns_of y
patterns_of (Intersection' op p x q y) = patterns_of x ++ patterns_of y
patterns_of (Difference' op p x q y) = patterns_of x ++ patterns_of y
patterns_of (Parens' p x) = patterns_of x
patterns_of (Set l) = leaf_patterns l
