use Rattle.std.proofs.Common.{map, string_bytes, take}
use Rattle.cargo_files.specs.Terse.{ListTests}
use Rattle.cargo_files.proofs.terse.tests_among.Given as goal

abbrev pub invariant-loop-place : goal.invariant-loop-place
invariant-loop-place l = ListTests (map (λ line. line.now) (take l.place l.lines)) (map string_bytes l.tests.items)
