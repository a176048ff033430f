use Rattle.std.proofs.Common.{map, length}
use Rattle.test_select_c.specs.PieceViews.{file_view}
use Rattle.test_select_c.proofs.PieceFacts.{SoFar, same_file, no_file}
use Rattle.test_select_c.proofs.pieces.files_of.Given as goal

abbrev pub invariant-loop-file : goal.invariant-loop-file
invariant-loop-file l = SoFar same_file no_file l.bytes (map file_view l.files.items) l.rest

abbrev pub decreases-loop-file : goal.decreases-loop-file
decreases-loop-file l = length l.rest
