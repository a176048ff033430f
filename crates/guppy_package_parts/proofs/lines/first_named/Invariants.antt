use Rattle.std.proofs.Common.{◌≡◌, length}
use Rattle.std.specs.List.{filter_map}
use Rattle.guppy_package_parts.specs.Lines.{line_at}
use Rattle.guppy_package_parts.proofs.lines.first_named.Given as goal

abbrev pub invariant-loop-place : goal.invariant-loop-place
invariant-loop-place l = filter_map (line_at l.links) l.left ≡ filter_map (line_at l.links) l.places

abbrev pub decreases-loop-place : goal.decreases-loop-place
decreases-loop-place l = length l.left
