use Rattle.std.proofs.Common.{◌∙◌, drop, take, sym, ap, subst, refl, rules}
use Rattle.std.proofs.lemmas.Bool.{false≢true}
use Rattle.std.specs.Str.{chars}
use Rattle.nextest_filter_matchers.specs.declared.glob_pattern.Pattern.{the_lemmas}
use Rattle.nextest_filter_matchers.specs.Globs.{Empty, GlobMatches, Then, tokens_then}
use Rattle.nextest_filter_matchers.specs.GlobViews.{glob_of, tokens_in}
use Rattle.nextest_filter_matchers.specs.Sequences.{stands_in_front}
use Rattle.nextest_filter_matchers.proofs.CutFacts.{splits_end, splits_here, splits_start}
use Rattle.nextest_filter_matchers.proofs.FrontFacts.{front_parts, front_tokens}
use Rattle.nextest_filter_matchers.proofs.PartFacts.{splits_match, tokens_before}
use Rattle.nextest_filter_matchers.proofs.glob_search.+search.Goals as goal
use Rattle.nextest_filter_matchers.proofs.glob_search.+search.Goals.{matches_both-else-parts_match-via-then-parts_match+else-parts_match-2, matches_both-else-parts_match-via-else-parts_match, matches_tokens-else-suits_tokens-via-then-suits_tokens+else-matches_both, matches_tokens-else-suits_tokens-via-else-suits_tokens}

pub matches_both-loop-back-init : goal.matches_both-loop-back-init
matches_both-loop-back-init t c =
    let start = c.first_cut-at.ensures.start in record {
      is_cut = c.first_cut-at.ensures.cut;
      splits = rw start (splits_start (GlobMatches (glob_of c.args.group.now)) (GlobMatches (glob_of c.args.more.now)) c.args.text.now);
    }

pub matches_both-returns-then-parts_match-2 : goal.matches_both-returns-then-parts_match-2
matches_both-returns-then-parts_match-2 t c =
    let first = glob_of c.args.group.now in
    let rest = glob_of c.args.more.now in
    let front = subst (λ s. GlobMatches first (chars s)) c.split_at.ensures.front (c.parts_match.ensures.0 c.if-parts_match.true) in
    let back = subst (λ s. GlobMatches rest (chars s)) c.split_at.ensures.back (c.parts_match-then-parts_match.ensures.0 c.if-parts_match-2.true) in
    (λ _. (splits_match first rest (chars c.args.text.now)).0 (c.loop-back.invariant.splits.0 (splits_here (GlobMatches first) (GlobMatches rest) c.args.text.now c.loop-back.at front back)), λ _. refl)

pub matches_both-returns-in-None : goal.matches_both-returns-in-None
matches_both-returns-in-None t c =
    let first = glob_of c.args.group.now in
    let rest = glob_of c.args.more.now in
    let none : GlobMatches first (chars (take c.loop-back.at c.args.text.now)) → GlobMatches rest (chars (drop c.loop-back.at c.args.text.now)) → ⊥ = λ f r.
    elim c.else-parts_match.branch [
      | matches_both-else-parts_match-via-then-parts_match+else-parts_match-2 w ↦ false≢true (sym w.if-parts_match-2.false ∙ w.parts_match-then-parts_match.ensures.1 (subst (λ s. GlobMatches rest (chars s)) (sym c.split_at.ensures.back) r))
      | matches_both-else-parts_match-via-else-parts_match w ↦ false≢true (sym w.if-parts_match.false ∙ c.parts_match.ensures.1 (subst (λ s. GlobMatches first (chars s)) (sym c.split_at.ensures.front) f))
    ] in
    (λ h. absurd (false≢true h), λ m. absurd (splits_end (GlobMatches first) (GlobMatches rest) c.args.text.now c.loop-back.at c.in-None.ensures.none none (c.loop-back.invariant.splits.1 ((splits_match first rest (chars c.args.text.now)).1 m))))

pub matches_tokens-loop-back-init : goal.matches_tokens-loop-back-init
matches_tokens-loop-back-init t c =
    let start = c.first_cut-at.ensures.start in record {
      is_cut = c.first_cut-at.ensures.cut;
      splits = rw start (splits_start (GlobMatches (tokens_then (tokens_in c.args.tokens.now) Empty)) (GlobMatches (Then (glob_of c.args.group.now) (glob_of c.args.more.now))) c.args.text.now);
    }

pub matches_tokens-returns-then-matches_both : goal.matches_tokens-returns-then-matches_both
matches_tokens-returns-then-matches_both t c =
    let first = tokens_then (tokens_in c.args.tokens.now) Empty in
    let rest = Then (glob_of c.args.group.now) (glob_of c.args.more.now) in
    let front = subst (λ s. GlobMatches first (chars s)) c.split_at.ensures.front (c.suits_tokens.ensures.0 c.if-suits_tokens.true) in
    let back = subst (λ s. GlobMatches rest (chars s)) c.split_at.ensures.back (c.matches_both.ensures.0 c.if-matches_both.true) in
    (λ _. (splits_match first rest (chars c.args.text.now)).0 (c.loop-back.invariant.splits.0 (splits_here (GlobMatches first) (GlobMatches rest) c.args.text.now c.loop-back.at front back)), λ _. refl)

pub matches_tokens-returns-in-None : goal.matches_tokens-returns-in-None
matches_tokens-returns-in-None t c =
    let first = tokens_then (tokens_in c.args.tokens.now) Empty in
    let rest = Then (glob_of c.args.group.now) (glob_of c.args.more.now) in
    let none : GlobMatches first (chars (take c.loop-back.at c.args.text.now)) → GlobMatches rest (chars (drop c.loop-back.at c.args.text.now)) → ⊥ = λ f r.
    elim c.else-suits_tokens.branch [
      | matches_tokens-else-suits_tokens-via-then-suits_tokens+else-matches_both w ↦ false≢true (sym w.if-matches_both.false ∙ w.matches_both.ensures.1 (subst (λ s. GlobMatches rest (chars s)) (sym c.split_at.ensures.back) r))
      | matches_tokens-else-suits_tokens-via-else-suits_tokens w ↦ false≢true (sym w.if-suits_tokens.false ∙ c.suits_tokens.ensures.1 (subst (λ s. GlobMatches first (chars s)) (sym c.split_at.ensures.front) f))
    ] in
    (λ h. absurd (false≢true h), λ m. absurd (splits_end (GlobMatches first) (GlobMatches rest) c.args.text.now c.loop-back.at c.in-None.ensures.none none (c.loop-back.invariant.splits.1 ((splits_match first rest (chars c.args.text.now)).1 m))))

pub parts_match-suits_tokens-requires : goal.parts_match-suits_tokens-requires
parts_match-suits_tokens-requires t c =
    let tokens = ap tokens_in c.deref.ensures.value in
    let front = sym (ap (λ p. stands_in_front (glob_of p)) c.in-Sequence.is) ∙ c.requires.1.1 in
    rw tokens (front_tokens (tokens_in c.in-Sequence.tokens.items) Empty front)

pub parts_match-matches_tokens-requires : goal.parts_match-matches_tokens-requires
parts_match-matches_tokens-requires t c =
    let tokens = ap tokens_in c.deref-in-Grouped.ensures.value in
    let front = sym (ap (λ p. stands_in_front (glob_of p)) c.in-Grouped.is) ∙ c.requires.1.1 in
    let parts = front_parts (tokens_in c.in-Grouped.tokens.items) c.in-Grouped.group.value c.in-Grouped.more.value front in
    (search (rules, the_lemmas), (rw tokens parts.0, (rw c.deref-in-Grouped-2.ensures parts.1, rw c.deref-in-Grouped-3.ensures parts.2)))

pub parts_match-returns-in-Grouped : goal.parts_match-returns-in-Grouped
parts_match-returns-in-Grouped t c =
    let more = Then (glob_of c.in-Grouped.group.value) (glob_of c.in-Grouped.more.value) in
    let all = tokens_before (tokens_in c.in-Grouped.tokens.items) more (chars c.args.text.now) in
    let found = rw (c.deref-in-Grouped.ensures.value, c.deref-in-Grouped-2.ensures, c.deref-in-Grouped-3.ensures) at c.matches_tokens.ensures in
    rw c.in-Grouped.is (λ h. all.0 (found.0 h), λ h. found.1 (all.1 h))
