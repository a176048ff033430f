use Rattle.std.proofs.Common.{◌+◌, ◌*◌}
use Rattle.nextest_filter_syntax.specs.Trees.{tree_of}
use Rattle.nextest_filter_syntax.proofs.LevelFacts.{weight}
use Rattle.nextest_filter_syntax.proofs.parsed_expr.ParsedExpr.+writing.Given as goal

-- a filter, and then a number of its levels: each is less than 2 ^ 64
abbrev pub decreases-write_to : goal.decreases-write_to
decreases-write_to g l = 18446744073709551616 * (2 * weight (tree_of l.self.now) + 1)

abbrev pub decreases-write_closings : goal.decreases-write_closings
decreases-write_closings g l = 18446744073709551616 * (2 * weight (tree_of l.self.now)) + l.levels

abbrev pub decreases-write_closing : goal.decreases-write_closing
decreases-write_closing g l = 18446744073709551616 * (2 * weight (tree_of l.self.now))
