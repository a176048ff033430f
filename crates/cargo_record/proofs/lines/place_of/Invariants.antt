use Rattle.std.proofs.Common.{ℕ, ◌<◌, ◌≤◌}
use Rattle.cargo_record.specs.Lines.{IsLinkAt}
use Rattle.cargo_record.proofs.lines.place_of.Given as goal

abbrev pub invariant-loop-place : goal.invariant-loop-place
invariant-loop-place l = (k : ℕ) → l.start ≤ k → k < l.place → ¬ IsLinkAt l.links k l.from l.to l.name
