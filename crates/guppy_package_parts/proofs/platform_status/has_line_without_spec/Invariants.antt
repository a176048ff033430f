use Rattle.std.proofs.Common.{◌≡◌, length}
use Rattle.std.specs.List.{list_any}
use Rattle.std.specs.Option.{is_none}
use Rattle.guppy_package_parts.specs.LineViews.{lines_of}
use Rattle.guppy_package_parts.specs.Statuses.{specs_of}
use Rattle.guppy_package_parts.proofs.platform_status.has_line_without_spec.Given as goal

abbrev pub invariant-loop-line : goal.invariant-loop-line
invariant-loop-line l = list_any is_none (specs_of (lines_of l.left)) ≡ list_any is_none (specs_of (lines_of l.lines))

abbrev pub decreases-loop-line : goal.decreases-loop-line
decreases-loop-line l = length (lines_of l.left)
