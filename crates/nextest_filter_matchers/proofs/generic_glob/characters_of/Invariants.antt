use Rattle.std.proofs.Common.{◌≡◌}
use Rattle.nextest_filter_matchers.proofs.generic_glob.characters_of.Given as goal

abbrev pub invariant-loop-c : goal.invariant-loop-c
invariant-loop-c l = l.characters.items ≡ l.yielded
