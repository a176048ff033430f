use Rattle.std.proofs.Common.{◌≡◌, ◌∙◌, [], ◌∷◌, true, false, sym, ap, subst, arith, rules}
use Rattle.std.proofs.lemmas.Grind.{common_steps}
use Rattle.std.proofs.lemmas.Str.{chars-nil, encodes-chars}
use Rattle.std.specs.Str.{chars, encode_utf8_all}
use Rattle.nextest_filter_matchers.specs.Globs.{InnerDirectories, TrailingDirectories}
use Rattle.nextest_filter_matchers.specs.GlobViews.{tokens_in}
use Rattle.nextest_filter_matchers.specs.Sequences.{SuitsTokens, stop_in}
use Rattle.nextest_filter_matchers.specs.StopViews.{stop_of}
use Rattle.nextest_filter_matchers.proofs.SequenceFacts.{slash_none, slash_some}
use Rattle.nextest_filter_matchers.proofs.glob_sequence.stop_after.Goals as goal

pub returns-in-InnerDirectories-clause-none : goal.returns-in-InnerDirectories-clause-none
returns-in-InnerDirectories-clause-none c =
    let e : tokens_in c.loop-token.rest.now ≡ InnerDirectories ∷ tokens_in c.in-Some.more.now = search rules in
    slash_none stop_of true _ _ _ e _ _ _ c.gap_behind_slash.ensures.none c.loop-token.invariant.left_suits

pub returns-in-InnerDirectories-clause-some : goal.returns-in-InnerDirectories-clause-some
returns-in-InnerDirectories-clause-some c =
    let e : tokens_in c.loop-token.rest.now ≡ InnerDirectories ∷ tokens_in c.in-Some.more.now = search rules in
    slash_some stop_of true _ _ _ e _ _ _ c.gap_behind_slash.ensures.some c.loop-token.invariant.suits c.loop-token.invariant.stop

pub returns-in-TrailingDirectories-clause-none : goal.returns-in-TrailingDirectories-clause-none
returns-in-TrailingDirectories-clause-none c =
    let e : tokens_in c.loop-token.rest.now ≡ TrailingDirectories ∷ tokens_in c.in-Some.more.now = search rules in
    slash_none stop_of false _ _ _ e _ _ _ c.gap_behind_slash-in-TrailingDirectories.ensures.none c.loop-token.invariant.left_suits

pub returns-in-TrailingDirectories-clause-some : goal.returns-in-TrailingDirectories-clause-some
returns-in-TrailingDirectories-clause-some c =
    let e : tokens_in c.loop-token.rest.now ≡ TrailingDirectories ∷ tokens_in c.in-Some.more.now = search rules in
    slash_some stop_of false _ _ _ e _ _ _ c.gap_behind_slash-in-TrailingDirectories.ensures.some c.loop-token.invariant.suits c.loop-token.invariant.stop

pub returns-then-is_empty-clause-some : goal.returns-then-is_empty-clause-some
returns-then-is_empty-clause-some c =
    let last : c.loop-token.rest.now ≡ [] = grind (arith, common_steps) in
    let none : tokens_in c.loop-token.rest.now ≡ [] = ap tokens_in last in
    let over : c.loop-token.left.now ≡ [] = grind (arith, common_steps) in
    let at = c.loop-token.invariant in
    (λ _. at.suits (subst (λ ts. SuitsTokens ts (chars c.loop-token.left.now)) (sym none) (ap chars over ∙ chars-nil)), ap (λ ts. stop_in ts (chars c.loop-token.left.now)) (sym none) ∙ at.stop)

pub returns-clause-none : goal.returns-clause-none
returns-clause-none c =
    let last : c.loop-token.rest.now ≡ [] = grind (arith, common_steps) in
    let none : tokens_in c.loop-token.rest.now ≡ [] = ap tokens_in last in λ h.
    let over : chars c.loop-token.left.now ≡ [] = subst (λ ts. SuitsTokens ts (chars c.loop-token.left.now)) none (c.loop-token.invariant.left_suits h) in
    let empty : c.loop-token.left.now ≡ [] = sym (encodes-chars c.loop-token.left.now (search rules)) ∙ ap encode_utf8_all over in
    absurd (grind (arith, common_steps))
