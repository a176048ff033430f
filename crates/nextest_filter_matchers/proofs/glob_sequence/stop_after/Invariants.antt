use Rattle.std.proofs.Common.{◌≡◌, length}
use denote.Text.{Utf8}
use denote.Shadow.{shadow}
use Rattle.std.specs.Str.{chars}
use Rattle.nextest_filter_matchers.specs.GlobViews.{tokens_in}
use Rattle.nextest_filter_matchers.specs.Sequences.{SuitsTokens, stop_in}
use Rattle.nextest_filter_matchers.proofs.glob_sequence.stop_after.Given as goal

abbrev pub invariant-loop-token : goal.invariant-loop-token
invariant-loop-token l = record {
  is_text : shadow (Utf8 l.left);
  suits : SuitsTokens (tokens_in l.rest) (chars l.left) → SuitsTokens (tokens_in l.tokens) (chars l.text);
  left_suits : SuitsTokens (tokens_in l.tokens) (chars l.text) → SuitsTokens (tokens_in l.rest) (chars l.left);
  stop : stop_in (tokens_in l.rest) (chars l.left) ≡ stop_in (tokens_in l.tokens) (chars l.text);
}

abbrev pub decreases-loop-token : goal.decreases-loop-token
decreases-loop-token l = length l.rest
