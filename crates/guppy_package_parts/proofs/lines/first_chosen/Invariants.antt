use Rattle.std.proofs.Common.{◌≡◌, filter, length}
use Rattle.guppy_package_parts.specs.LineChoices.{takes}
use Rattle.guppy_package_parts.specs.Lines.{lines_at}
use Rattle.guppy_package_parts.proofs.lines.first_chosen.Given as goal

abbrev pub invariant-loop-line : goal.invariant-loop-line
invariant-loop-line l = filter (takes l.choice) (lines_at l.links l.left) ≡ filter (takes l.choice) (lines_at l.links l.places)

abbrev pub decreases-loop-line : goal.decreases-loop-line
decreases-loop-line l = length (lines_at l.links l.left)
