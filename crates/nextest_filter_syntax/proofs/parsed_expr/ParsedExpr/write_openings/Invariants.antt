use Rattle.std.proofs.Common.{◌≡◌, ℕ, List, ◌++◌}
use Rattle.std.specs.Fmt.{HasWritten, IsPlainFormatter}
use Rattle.nextest_filter_syntax.specs.Trees.{tree_of}
use Rattle.nextest_filter_syntax.specs.Levels.{openings}
use Rattle.nextest_filter_syntax.proofs.parsed_expr.ParsedExpr.write_openings.Given as goal

abbrev pub invariant-loop-levels : goal.invariant-loop-levels
invariant-loop-levels g l =
    IsPlainFormatter l.fn.f → (written : List ℕ) × HasWritten g.W.Write.write_str_gives l.fn.f written l.f
    × (written ++ openings l.levels (tree_of l.rest) ≡ openings l.fn.levels (tree_of l.fn.self))

abbrev pub decreases-loop-levels : goal.decreases-loop-levels
decreases-loop-levels g l = l.levels
