use Rattle.nextest_filter_tokens.proofs.escapes.+digits_after.Given as goal

abbrev pub decreases-digits_after : goal.decreases-digits_after
decreases-digits_after l = l.left
