use Rattle.std.proofs.Common.{◌≡◌, ◌≤◌, ◌-◌, length}
use Rattle.cargo_files.specs.Bytes.{run_end}
use Rattle.cargo_files.proofs.bytes.run_end.Given as goal

abbrev pub invariant-loop-place : goal.invariant-loop-place
invariant-loop-place l = record {
  value : run_end l.run l.text l.place ≡ run_end l.run l.text l.at;
  rises : l.at ≤ l.place;
  end : l.place ≤ length l.text;
}

abbrev pub decreases-loop-place : goal.decreases-loop-place
decreases-loop-place l = length l.text - l.place
