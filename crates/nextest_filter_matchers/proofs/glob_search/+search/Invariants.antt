use Rattle.std.proofs.Common.{◌+◌, ◌*◌, ◌-◌, max, ◌↔◌, [], length}
use Rattle.nextest_filter_matchers.proofs.CutFacts.{SplitsAt}
use Rattle.std.specs.Str.{IsCharBoundary, chars}
use Rattle.nextest_filter_matchers.specs.declared.glob_pattern.Pattern.{size-Pattern}
use Rattle.nextest_filter_matchers.specs.Globs.{Empty, GlobMatches, Then, tokens_then}
use Rattle.nextest_filter_matchers.specs.GlobViews.{glob_of, tokens_in}
use Rattle.nextest_filter_matchers.specs.Parts.{Splits}
use Rattle.nextest_filter_matchers.proofs.glob_search.+search.Given as goal

abbrev pub decreases-parts_match : goal.decreases-parts_match
decreases-parts_match l = 3 * size-Pattern l.pattern.now

abbrev pub decreases-matches_tokens : goal.decreases-matches_tokens
decreases-matches_tokens l = 3 * max (size-Pattern l.group.now) (size-Pattern l.more.now) + 2

abbrev pub decreases-matches_both : goal.decreases-matches_both
decreases-matches_both l = 3 * max (size-Pattern l.group.now) (size-Pattern l.more.now) + 1

abbrev pub invariant-matches_both-loop-back : goal.invariant-matches_both-loop-back
invariant-matches_both-loop-back l = record {
  is_cut : IsCharBoundary l.text l.at;
  splits : SplitsAt (GlobMatches (glob_of l.group)) (GlobMatches (glob_of l.more)) l.text l.at ↔ Splits (GlobMatches (glob_of l.group)) (GlobMatches (glob_of l.more)) [] (chars l.text);
}

abbrev pub decreases-matches_both-loop-back : goal.decreases-matches_both-loop-back
decreases-matches_both-loop-back l = length l.text - l.at

abbrev pub invariant-matches_tokens-loop-back : goal.invariant-matches_tokens-loop-back
invariant-matches_tokens-loop-back l = record {
  is_cut : IsCharBoundary l.text l.at;
  splits : SplitsAt (GlobMatches (tokens_then (tokens_in l.tokens) Empty)) (GlobMatches (Then (glob_of l.group) (glob_of l.more))) l.text l.at ↔ Splits (GlobMatches (tokens_then (tokens_in l.tokens) Empty)) (GlobMatches (Then (glob_of l.group) (glob_of l.more))) [] (chars l.text);
}

abbrev pub decreases-matches_tokens-loop-back : goal.decreases-matches_tokens-loop-back
decreases-matches_tokens-loop-back l = length l.text - l.at
