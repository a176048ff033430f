use Rattle.std.proofs.Common.{true, length}
use denote.Text.{Utf8}
use denote.Shadow.{shadow}
use Rattle.std.specs.Str.{chars}
use Rattle.nextest_filter_matchers.specs.GlobViews.{tokens_in}
use Rattle.nextest_filter_matchers.specs.Sequences.{IsBehind, SuitsTokens}
use Rattle.nextest_filter_matchers.proofs.glob_sequence.stop_behind.Given as goal

abbrev pub invariant-loop-stop : goal.invariant-loop-stop
invariant-loop-stop l = record {
  is_text : shadow (Utf8 l.left);
  suits : IsBehind l.of_folders l.is_here (SuitsTokens (tokens_in l.tokens)) (chars l.left) → IsBehind l.of_folders true (SuitsTokens (tokens_in l.tokens)) (chars l.text);
  left_suits : IsBehind l.of_folders true (SuitsTokens (tokens_in l.tokens)) (chars l.text) → IsBehind l.of_folders l.is_here (SuitsTokens (tokens_in l.tokens)) (chars l.left);
}

abbrev pub decreases-loop-stop : goal.decreases-loop-stop
decreases-loop-stop l = length (chars l.left)
