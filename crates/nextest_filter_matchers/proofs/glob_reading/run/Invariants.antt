use Rattle.std.proofs.Common.{◌≡◌, ◌≤◌}
use Rattle.nextest_filter_matchers.specs.GlobReading.{Tokens, read_part}
use Rattle.nextest_filter_matchers.specs.GlobViews.{tokens_in}
use Rattle.nextest_filter_matchers.specs.ReadingViews.{prefixed}
use Rattle.nextest_filter_matchers.proofs.glob_reading.run.Given as goal

abbrev pub invariant-loop-left : goal.invariant-loop-left
invariant-loop-left l = record {
  reads : prefixed (tokens_in l.tokens.items) (read_part l.left (Tokens l.is_front l.is_inside) l.rest) ≡ read_part l.fn.left (Tokens l.fn.is_front l.is_inside) l.text;
  fewer : l.left ≤ l.fn.left;
}

abbrev pub decreases-loop-left : goal.decreases-loop-left
decreases-loop-left l = l.left
