use Rattle.std.proofs.Common.{◌≡◌, ◌↔◌, false}
use Rattle.std.specs.Str.{chars}
use Rattle.nextest_filter_matchers.specs.GlobViews.{tokens_in}
use Rattle.nextest_filter_matchers.specs.Sequences.{SuitsTokens}
use Rattle.nextest_filter_matchers.specs.StopViews.{SuitsRest, has_leading, tokens_left}
use Rattle.nextest_filter_matchers.proofs.glob_sequence.suits_tokens.Given as goal

abbrev pub invariant-loop-stop : goal.invariant-loop-stop
invariant-loop-stop l = record {
  suits : SuitsRest l.stop ↔ SuitsTokens (tokens_in l.tokens) (chars l.text);
  lacks : has_leading l.stop ≡ false;
}

abbrev pub decreases-loop-stop : goal.decreases-loop-stop
decreases-loop-stop l = tokens_left l.stop
