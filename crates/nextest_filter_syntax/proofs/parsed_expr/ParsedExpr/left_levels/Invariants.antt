use Rattle.std.proofs.Common.{◌-◌, ◌<◌}
use Rattle.nextest_filter_syntax.proofs.parsed_expr.ParsedExpr.left_levels.Given as goal

abbrev pub invariant-loop-levels : goal.invariant-loop-levels
invariant-loop-levels g l = 0 < l.levels

abbrev pub decreases-loop-levels : goal.decreases-loop-levels
decreases-loop-levels g l = 18446744073709551615 - l.levels
