use Rattle.std.proofs.Common.{◌≡◌, ◌∙◌, ◌+◌, ◌-◌, sym, ap, arith}
use Rattle.nextest_filter_tokens.specs.Bytes.{blanks_from, skip}
use Rattle.nextest_filter_tokens.proofs.BlankFacts.{blanks_from-more, blanks_from-none}
use Rattle.nextest_filter_tokens.proofs.blanks.skip_blanks.Goals as goal

pub returns-then-length-eq0-clause-value : goal.returns-then-length-eq0-clause-value
unfolding skip
returns-then-length-eq0-clause-value c =
    sym (blanks_from-none c.args.text.now c.loop-left.left c.loop-left.place (sym c.blank_length_at-length.ensures.value ∙ c.if-length-eq0.true)) ∙ c.loop-left.invariant.value

pub loop-left-preserved : goal.loop-left-preserved
loop-left-preserved c =
    let length = c.blank_length_at-length.ensures in
    let more = blanks_from-more c.args.text.now c.loop-left.left c.loop-left.place (omega arith) (λ e. c.if-length-eq0.false (length.value ∙ e)) in
    record {
      value = ap (λ k. blanks_from c.args.text.now (c.loop-left.left - 1) (c.loop-left.place + k)) length.value ∙ sym more ∙ c.loop-left.invariant.value;
      rises = omega arith;
      end = length.end;
      boundary = λ h. length.boundary (c.loop-left.invariant.boundary h);
    }

pub returns-clause-value : goal.returns-clause-value
unfolding skip
returns-clause-value c =
    let none : c.loop-left.left ≡ 0 = omega arith in
    ap (λ k. blanks_from c.args.text.now k c.loop-left.place) (sym none) ∙ c.loop-left.invariant.value
