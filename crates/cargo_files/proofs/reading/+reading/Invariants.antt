use Rattle.std.proofs.Common.{ℕ, ◌+◌, ◌-◌, ◌*◌, ◌≤◌, length}
use Rattle.cargo_files.specs.Expressions.{Cfg}
use Rattle.cargo_files.specs.Grammar.{ReadsEach}
use Rattle.cargo_files.proofs.ReadingFacts.{Gathers}
use Rattle.cargo_files.proofs.reading.+reading.Given as goal

abbrev pub decreases-expression : goal.decreases-expression
decreases-expression l = 2 * l.room

abbrev pub decreases-each : goal.decreases-each
decreases-each l = 2 * l.room + 1

abbrev pub invariant-each-loop-end : goal.invariant-each-loop-end
invariant-each-loop-end l = record {
  rises : l.at ≤ l.place;
  end : l.place ≤ length l.text;
  read : (x : Cfg) (j : ℕ) → ReadsEach l.text l.room l.every l.place x j → (y : Cfg) × ReadsEach l.text l.room l.every l.at y j;
  only : (x : Cfg) (j : ℕ) → ReadsEach l.text l.room l.every l.at x j → Gathers l.text l.settings l.room l.every l.place l.value x j;
}

abbrev pub decreases-each-loop-end : goal.decreases-each-loop-end
decreases-each-loop-end l = length l.text - l.place
