use Rattle.std.proofs.Common.{◌≡◌, ◌∙◌, [], sym, subst, slice_range, arith}
use Rattle.std.specs.Str.{trim}
use Rattle.nextest_filter_tokens.specs.ReadingSteps.{IsClean}
use Rattle.nextest_filter_syntax.specs.LeafGrammar.{IsUpToClose, Stands}
use Rattle.nextest_filter_syntax.proofs.ReadFacts.{up_to_once}
use Rattle.nextest_filter_syntax.proofs.LeafStepFacts.{goes_both}
use Rattle.nextest_filter_syntax.proofs.sets.nullary_set_from.Goals as goal

pub returns-clause-goes_on : goal.returns-clause-goes_on
returns-clause-goes_on c =
    let text = c.args.text.now in
    let up_to = c.in_ok-end.ensures.up_to in
    let inner = goes_both text c.in_ok-inner.inner c.in_ok-end.end c.in_ok-after.after c.opened_after.new.faults c.white_after.new.faults c.expect_byte.new.faults (up_to.rises, up_to.end, c.in_ok-end.ensures.grows) c.in_ok-after.ensures.goes_on in
    goes_both text c.args.at c.in_ok-inner.inner c.in_ok-after.after c.args.faults.now c.opened_after.new.faults c.expect_byte.new.faults c.in_ok-inner.ensures.goes_on inner

pub returns-clause-keeps : goal.returns-clause-keeps
returns-clause-keeps c =
    c.in_ok-after.ensures.keeps ∙ c.in_ok-end.ensures.keeps ∙ c.in_ok-inner.ensures.keeps

pub returns-clause-as_written : goal.returns-clause-as_written
returns-clause-as_written c =
    c.nullary_leaf.ensures.as_written

pub returns-clause-read : goal.returns-clause-read
returns-clause-read c clean =
    let white : IsClean c.white_after.new.faults = omega (arith, clean, c.in_ok-after.ensures.goes_on.2.1) in
    let opened : IsClean c.opened_after.new.faults = omega (arith, white, c.in_ok-end.ensures.grows.1) in
    record {
      inner = c.in_ok-inner.inner;
      end = c.in_ok-end.end;
      opens = c.in_ok-inner.ensures.read opened;
      up_to = c.in_ok-end.ensures.up_to;
      white = c.in_ok-end.ensures.read white;
      closes = c.in_ok-after.ensures.read clean;
      is = c.nullary_leaf.ensures.value;
    }

pub white_after-requires-clause-faults : goal.white_after-requires-clause-faults
white_after-requires-clause-faults c =
    c.in_ok-inner.ensures.goes_on.2.2

pub expect_byte-requires-clause-faults : goal.expect_byte-requires-clause-faults
expect_byte-requires-clause-faults c =
    c.in_ok-end.ensures.grows.2

pub returns-clause-only : goal.returns-clause-only
returns-clause-only c clean leaf j from =
    let text = c.args.text.now in
    let opened = c.in_ok-inner.ensures.only clean from.inner from.opens in
    let up_to = subst (λ k. IsUpToClose text k from.end) (sym opened.0) from.up_to in
    let end : c.in_ok-end.end ≡ from.end = up_to_once text c.in_ok-end.ensures.up_to up_to in
    let white = subst (λ k. trim (slice_range text k c.in_ok-end.end) ≡ []) (sym opened.0) (subst (λ k. trim (slice_range text from.inner k) ≡ []) (sym end) from.white) in
    let none = c.in_ok-end.ensures.only opened.1 white in
    c.in_ok-after.ensures.only none j (subst (λ k. Stands text k 41 j) (sym end) from.closes)
