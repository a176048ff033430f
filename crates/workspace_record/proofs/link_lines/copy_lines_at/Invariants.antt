use Rattle.std.proofs.Common.{◌≡◌, take}
use Rattle.workspace_record.specs.LinesAt.{lines_at}
use Rattle.workspace_record.proofs.link_lines.copy_lines_at.Given as goal

abbrev pub invariant-loop-place : goal.invariant-loop-place
invariant-loop-place l = l.copies.items ≡ lines_at l.lines (take l.place-index l.places)
