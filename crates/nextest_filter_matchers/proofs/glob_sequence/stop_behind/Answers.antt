use Rattle.std.proofs.Common.{sym, subst}
use Rattle.std.specs.Str.{chars}
use Rattle.nextest_filter_matchers.specs.GlobViews.{tokens_in}
use Rattle.nextest_filter_matchers.specs.Sequences.{IsFewer, SuitsTokens}
use Rattle.nextest_filter_matchers.proofs.SequenceFacts.{first_is_best, is_here, stop_lacks}
use Rattle.nextest_filter_matchers.proofs.glob_sequence.stop_behind.Goals as goal

pub returns-in-Some-clause-some : goal.returns-in-Some-clause-some
returns-in-Some-clause-some c =
    let at = c.loop-stop.invariant in
    let found = c.in-Some.ensures.some in (
      λ h. first_is_best c.args.of_folders c.loop-stop.is_here _ (chars c.loop-stop.left.now) _ c.requires found.1 (at.left_suits h),
      λ s. at.suits (is_here c.args.of_folders c.loop-stop.is_here (SuitsTokens (tokens_in c.args.tokens.now)) (chars c.loop-stop.left.now) c.in-Some.ensures.here (found.0 s)),
    )

pub returns-in-Some-clause-fewer : goal.returns-in-Some-clause-fewer
returns-in-Some-clause-fewer c =
    let found = c.in-Some.ensures.some in
    subst (IsFewer (tokens_in c.args.tokens.now)) (sym found.1) (stop_lacks (tokens_in c.args.tokens.now) (chars c.loop-stop.left.now) c.requires)
