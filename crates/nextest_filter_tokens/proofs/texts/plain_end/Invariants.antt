use Rattle.std.proofs.Common.{◌≡◌, ℕ, ◌-◌, ◌≤◌, ◌<◌, true, length}
use Rattle.nextest_filter_tokens.specs.Texts.{is_plain}
use Rattle.nextest_filter_tokens.proofs.texts.plain_end.Given as goal

abbrev pub invariant-loop-place : goal.invariant-loop-place
invariant-loop-place l = record {
  rises : l.at ≤ l.place;
  end : l.place ≤ length l.text;
  plain : (k : ℕ) → l.at ≤ k → k < l.place → is_plain l.text k ≡ true;
}

abbrev pub decreases-loop-place : goal.decreases-loop-place
decreases-loop-place l = length l.text - l.place
