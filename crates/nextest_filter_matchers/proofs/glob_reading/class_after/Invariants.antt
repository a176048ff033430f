use Rattle.std.proofs.Common.{◌≡◌, [], false, length}
use Rattle.nextest_filter_matchers.specs.GlobReading.{class_rest}
use Rattle.nextest_filter_matchers.proofs.glob_reading.class_after.Given as goal

abbrev pub invariant-loop-rest : goal.invariant-loop-rest
invariant-loop-rest l = class_rest l.ranges.items l.low l.high l.is_drawn l.rest ≡ class_rest [] l.fn.first l.fn.first false l.text

abbrev pub decreases-loop-rest : goal.decreases-loop-rest
decreases-loop-rest l = length l.rest
