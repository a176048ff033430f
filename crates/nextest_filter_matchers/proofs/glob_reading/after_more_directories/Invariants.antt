use Rattle.std.proofs.Common.{◌≡◌, length}
use Rattle.nextest_filter_matchers.specs.GlobReading.{past_directories}
use Rattle.nextest_filter_matchers.proofs.glob_reading.after_more_directories.Given as goal

abbrev pub invariant-loop-rest : goal.invariant-loop-rest
invariant-loop-rest l = past_directories l.rest ≡ past_directories l.text

abbrev pub decreases-loop-rest : goal.decreases-loop-rest
decreases-loop-rest l = length l.rest
