use Rattle.std.proofs.Common.{◌≡◌, filter, length}
use Rattle.guppy_package_parts.specs.LineViews.{is_line_of}
use Rattle.guppy_package_parts.proofs.lines.first_passing.Given as goal

abbrev pub invariant-loop-line : goal.invariant-loop-line
invariant-loop-line l = filter (is_line_of l.test) l.left ≡ filter (is_line_of l.test) l.lines

abbrev pub decreases-loop-line : goal.decreases-loop-line
decreases-loop-line l = length l.left
