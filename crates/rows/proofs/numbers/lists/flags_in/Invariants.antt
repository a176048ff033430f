use Rattle.std.proofs.Common.{◌≡◌, length}
use Rattle.rows.proofs.numbers.lists.flags_in.Given as goal

abbrev pub invariant-loop-number : goal.invariant-loop-number
invariant-loop-number l = length l.flags.items ≡ l.number-counter
