use Rattle.std.proofs.Common.{◌≡◌, length}
use Rattle.guppy_package_parts.specs.LineViews.{lines_of}
use Rattle.guppy_package_parts.specs.Statuses.{given_specs}
use Rattle.guppy_package_parts.proofs.platform_status.first_spec.Given as goal

abbrev pub invariant-loop-line : goal.invariant-loop-line
invariant-loop-line l = given_specs (lines_of l.left) ≡ given_specs (lines_of l.lines)

abbrev pub decreases-loop-line : goal.decreases-loop-line
decreases-loop-line l = length (lines_of l.left)
