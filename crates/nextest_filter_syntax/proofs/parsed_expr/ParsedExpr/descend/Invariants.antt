use Rattle.std.proofs.Common.{◌≡◌}
use Rattle.nextest_filter_syntax.specs.Trees.{tree_of}
use Rattle.nextest_filter_syntax.specs.Levels.{descended}
use Rattle.nextest_filter_syntax.proofs.parsed_expr.ParsedExpr.descend.Given as goal

abbrev pub invariant-loop-levels : goal.invariant-loop-levels
invariant-loop-levels g l =
    descended l.levels (tree_of l.rest) ≡ descended l.fn.levels (tree_of l.fn.self)

abbrev pub decreases-loop-levels : goal.decreases-loop-levels
decreases-loop-levels g l = l.levels
