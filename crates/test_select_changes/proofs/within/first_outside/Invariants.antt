use Rattle.std.proofs.Common.{All, map, take}
use Rattle.test_select_changes.specs.Changes.{IsWithin}
use Rattle.test_select_changes.proofs.within.first_outside.Given as goal

abbrev pub invariant-loop-place : goal.invariant-loop-place
invariant-loop-place l = All IsWithin (take l.place (map (λ path. path.now) l.paths))
