use Rattle.std.proofs.Common.{◌+◌, ◌-◌, ◌≤◌, length}
use Rattle.test_select_rules.specs.CountedViews.{counted_list}
use Rattle.test_select_rules.specs.Digits.{digits}
use Rattle.test_select_rules.specs.Searches.{IsBetween, LooksLeft}
use Rattle.test_select_rules.proofs.search.finds_counted.Given as goal

abbrev pub invariant-loop-low : goal.invariant-loop-low
invariant-loop-low g l = record {
  ordered : l.low ≤ l.high;
  within : l.high ≤ length (counted_list l.features);
  between : IsBetween (counted_list l.features) l.wanted l.low l.high;
  left : LooksLeft (l.high - l.low) (l.fn.looks + digits (length (counted_list l.features))) l.looks;
}

abbrev pub decreases-loop-low : goal.decreases-loop-low
decreases-loop-low g l = l.high - l.low
