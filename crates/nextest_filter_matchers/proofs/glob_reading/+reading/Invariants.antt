use Rattle.std.proofs.Common.{◌+◌, ◌*◌}
use Rattle.nextest_filter_matchers.proofs.glob_reading.+reading.Given as goal

abbrev pub decreases-sequence : goal.decreases-sequence
decreases-sequence l = 2 * l.left

abbrev pub decreases-grouped : goal.decreases-grouped
decreases-grouped l = 2 * l.left + 1

abbrev pub decreases-alternates : goal.decreases-alternates
decreases-alternates l = 2 * l.left
