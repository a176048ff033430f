use Rattle.std.proofs.Common.{◌≤◌, ◌∙◌, ◌++◌, sym, ap, subst, arith}
use Rattle.nextest_filter_matchers.specs.Matchers.{matcher_of}
use Rattle.nextest_filter_tokens.specs.Bytes.{skip}
use Rattle.nextest_filter_tokens.specs.ReadingSteps.{IsClean}
use Rattle.nextest_filter_syntax.specs.LeafGrammar.{ReadsMatcher, Stands, matcher_places}
use Rattle.nextest_filter_syntax.proofs.ReadFacts.{named_is, named_some}
use Rattle.nextest_filter_syntax.proofs.LeafStepFacts.{goes_both, goes_from}
use Rattle.nextest_filter_syntax.proofs.sets.named_set_from.Goals as goal

pub returns-in-Some-clause-goes_on : goal.returns-in-Some-clause-goes_on
returns-in-Some-clause-goes_on c =
    let text = c.args.text.now in
    let start = c.skip_blanks-start.result in
    let rest = goes_both text start c.in_ok-matcher.end c.in_ok-after.after c.opened_after.new.faults c.matcher_from.new.faults c.closed_after.new.faults c.in_ok-matcher.ensures.goes_on c.in_ok-after.ensures.goes_on in
    let inner = goes_from text c.in_ok-inner.inner start c.in_ok-after.after c.opened_after.new.faults c.closed_after.new.faults c.skip_blanks-start.ensures.rises rest in
    goes_both text c.args.at c.in_ok-inner.inner c.in_ok-after.after c.args.faults.now c.opened_after.new.faults c.closed_after.new.faults c.in_ok-inner.ensures.goes_on inner

pub returns-in-None-clause-goes_on : goal.returns-in-None-clause-goes_on
returns-in-None-clause-goes_on c =
    let text = c.args.text.now in
    let start = c.skip_blanks-start.result in
    let rest = goes_both text start c.in_ok-matcher.end c.in_ok-after.after c.opened_after.new.faults c.matcher_from.new.faults c.closed_after.new.faults c.in_ok-matcher.ensures.goes_on c.in_ok-after.ensures.goes_on in
    let inner = goes_from text c.in_ok-inner.inner start c.in_ok-after.after c.opened_after.new.faults c.closed_after.new.faults c.skip_blanks-start.ensures.rises rest in
    goes_both text c.args.at c.in_ok-inner.inner c.in_ok-after.after c.args.faults.now c.opened_after.new.faults c.closed_after.new.faults c.in_ok-inner.ensures.goes_on inner

pub returns-in-Some-clause-spoils : goal.returns-in-Some-clause-spoils
returns-in-Some-clause-spoils c =
    let matcher = rw c.in-Some.is at c.in_ok-matcher.ensures.spoils in
    (c.in_ok-after.ensures.keeps ∙ matcher.0 ∙ c.in_ok-inner.ensures.keeps, tt)

pub returns-in-None-clause-spoils : goal.returns-in-None-clause-spoils
returns-in-None-clause-spoils c =
    let matcher = rw c.in-None.is at c.in_ok-matcher.ensures.spoils in
    (tt, omega (arith, matcher.1, c.in_ok-after.ensures.goes_on.2.0))

pub returns-in-Some-clause-as_written : goal.returns-in-Some-clause-as_written
returns-in-Some-clause-as_written c =
    c.leaf_with-leaf.ensures.as_written (rw c.in-Some.is at c.in_ok-matcher.ensures.as_written)

pub returns-in-Some-clause-read : goal.returns-in-Some-clause-read
returns-in-Some-clause-read c clean =
    let after : IsClean c.matcher_from.new.faults = omega (arith, clean, c.in_ok-after.ensures.goes_on.2.1) in
    let opened : IsClean c.opened_after.new.faults = omega (arith, after, c.in_ok-matcher.ensures.goes_on.2.1) in
    let read = rw c.in-Some.is at c.in_ok-matcher.ensures.read after in
    named_is c.args.text.now c.args.predicate c.args.at c.in_ok-inner.inner c.skip_blanks-start.result c.in_ok-matcher.end c.in_ok-after.after (matcher_of c.in-Some.matcher) _ (c.in_ok-inner.ensures.read opened) c.skip_blanks-start.ensures.value read (c.in_ok-after.ensures.read clean) c.leaf_with-leaf.ensures.value

pub matcher_from-requires-clause-faults : goal.matcher_from-requires-clause-faults
matcher_from-requires-clause-faults c =
    c.in_ok-inner.ensures.goes_on.2.2

pub closed_after-requires-clause-faults : goal.closed_after-requires-clause-faults
closed_after-requires-clause-faults c =
    c.in_ok-matcher.ensures.goes_on.2.2

pub returns-in-Some-clause-only : goal.returns-in-Some-clause-only
returns-in-Some-clause-only c clean leaf j from =
    let text = c.args.text.now in
    let opened = c.in_ok-inner.ensures.only clean from.inner from.opens in
    let place = ap (skip text) (sym opened.0) ∙ sym c.skip_blanks-start.ensures.value in
    let reads = subst (λ k. ReadsMatcher text c.args.predicate k from.matcher from.end) place from.reads in
    let matcher = c.in_ok-matcher.ensures.only opened.1 from.matcher from.end reads in
    c.in_ok-after.ensures.only matcher.1 j (subst (λ k. Stands text k 41 j) (sym matcher.0) from.closes)

pub returns-in-None-clause-only : goal.returns-in-None-clause-only
returns-in-None-clause-only c clean leaf j from =
    let text = c.args.text.now in
    let opened = c.in_ok-inner.ensures.only clean from.inner from.opens in
    let place = ap (skip text) (sym opened.0) ∙ sym c.skip_blanks-start.ensures.value in
    let reads = subst (λ k. ReadsMatcher text c.args.predicate k from.matcher from.end) place from.reads in
    let matcher = c.in_ok-matcher.ensures.only opened.1 from.matcher from.end reads in
    c.in_ok-after.ensures.only matcher.1 j (subst (λ k. Stands text k 41 j) (sym matcher.0) from.closes)

pub returns-in-None-clause-unbuilt : goal.returns-in-None-clause-unbuilt
returns-in-None-clause-unbuilt c clean =
    let after : IsClean c.matcher_from.new.faults = omega (arith, clean, c.in_ok-after.ensures.goes_on.2.1) in
    let opened : IsClean c.opened_after.new.faults = omega (arith, after, c.in_ok-matcher.ensures.goes_on.2.1) in
    let unbuilt = rw c.in-None.is at c.in_ok-matcher.ensures.unbuilt after in
    let rises : c.in_ok-inner.inner ≤ c.in_ok-matcher.end = omega (arith, c.skip_blanks-start.ensures.rises, c.in_ok-matcher.ensures.goes_on.0) in
    let refused = c.in_ok-after.ensures.keeps ∙ unbuilt.2 ∙ ap (λ xs. xs ++ matcher_places unbuilt.0 c.skip_blanks-start.result c.in_ok-matcher.end) c.in_ok-inner.ensures.keeps in
    named_some c.args.text.now c.args.predicate c.args.at c.in_ok-inner.inner c.skip_blanks-start.result c.in_ok-matcher.end c.in_ok-after.after unbuilt.0 _ _ rises (c.in_ok-inner.ensures.read opened) c.skip_blanks-start.ensures.value unbuilt.1 (c.in_ok-after.ensures.read clean) refused

pub matcher_from-requires-clause-begins : goal.matcher_from-requires-clause-begins
matcher_from-requires-clause-begins c =
    record {
      start = c.requires.named.0;
      predicate = c.args.predicate;
      next = c.args.at;
      inner = c.in_ok-inner.inner;
      named = c.requires.named.1;
      opened = c.in_ok-inner.ensures.opened;
      begins = c.skip_blanks-start.ensures.value;
    }
