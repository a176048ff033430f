use Rattle.std.proofs.Common.{◌≡◌, ℕ, ◌-◌, ◌<◌, List, true, false, length, string_bytes}
use Rattle.std.specs.Str.{IsCharBoundary}
use Rattle.nextest_filter_tokens.specs.ReadingSteps.{GoesOn, HasSyntaxFault}
use Rattle.nextest_filter_tokens.specs.Texts.{ReadsText}
use Rattle.nextest_filter_tokens.proofs.TextFacts.{IsPart}
use Rattle.nextest_filter_tokens.proofs.texts.text_from.Given as goal

abbrev pub invariant-loop-value : goal.invariant-loop-value
invariant-loop-value l = record {
  goes_on : GoesOn l.text l.at l.place l.fn.faults l.faults;
  boundary : IsCharBoundary l.text l.place;
  part : l.is_whole ≡ true → IsPart l.text l.at l.place (string_bytes l.value);
  same : l.is_whole ≡ true → l.faults.list.items ≡ l.fn.faults.list.items;
  fault : l.is_whole ≡ false → HasSyntaxFault l.faults;
  unread : l.is_whole ≡ false → (xs : List ℕ) (j : ℕ) → ReadsText l.text l.at xs j → ⊥;
}

abbrev pub decreases-loop-value : goal.decreases-loop-value
decreases-loop-value l = length l.text - l.place
