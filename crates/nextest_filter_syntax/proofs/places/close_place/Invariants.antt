use Rattle.std.proofs.Common.{◌≡◌, ℕ, ◌-◌, ◌≤◌, ◌<◌, false, length}
use Rattle.nextest_filter_tokens.specs.Bytes.{is_byte}
use Rattle.nextest_filter_syntax.proofs.places.close_place.Given as goal

abbrev pub invariant-loop-place : goal.invariant-loop-place
invariant-loop-place l = record {
  rises : l.at ≤ l.place;
  end : l.place ≤ length l.text;
  plain : (k : ℕ) → l.at ≤ k → k < l.place → is_byte l.text k 41 ≡ false;
}

abbrev pub decreases-loop-place : goal.decreases-loop-place
decreases-loop-place l = length l.text - l.place
