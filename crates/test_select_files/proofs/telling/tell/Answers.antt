use Rattle.std.proofs.Common.{rules, ap}
use Rattle.test_select_files.proofs.TellingFacts.{tells_lines, tells_memory}
use Rattle.test_select_files.proofs.telling.tell.Goals as goal
use Rattle.test_select_files.proofs.telling.tell.Goals.{in-Ok, in-Err}

pub returns : goal.returns
returns g c = elim c.match-lines.branch [
  | in-Ok w ↦ record { told = tells_lines _ _ _ _ c.write_bytes.result (search rules) c.write_bytes.ensures }
  | in-Err w ↦ record { told = tells_memory _ _ _ _ c.write_bytes.result (ap (λ b. b.now) w.bytes-is) c.write_bytes.ensures }
]
