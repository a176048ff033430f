use Rattle.std.proofs.Common.{◌-◌, ◌≤◌, length, string_bytes}
use Rattle.std.specs.Str.{IsCharBoundary}
use Rattle.nextest_filter_tokens.proofs.PatternFacts.{IsPart}
use Rattle.nextest_filter_tokens.proofs.patterns.pattern_from.Given as goal

abbrev pub invariant-loop-pattern : goal.invariant-loop-pattern
invariant-loop-pattern l = record {
  low : l.at ≤ l.place;
  high : l.place ≤ length l.text;
  boundary : IsCharBoundary l.text l.place;
  part : IsPart l.text l.at l.place (string_bytes l.pattern);
}

abbrev pub decreases-loop-pattern : goal.decreases-loop-pattern
decreases-loop-pattern l = length l.text - l.place
