use Rattle.std.proofs.Common.{◌∙◌, false, not, sym, ap, refl, arith, rules, ◌++◌}
use Rattle.std.proofs.Output.{has_written_append, has_written_of_eq}
use Rattle.std.proofs.lemmas.Iterator.{YieldsList-from_chars}
use Rattle.std.proofs.lemmas.Iterator.Consumers.{YieldsList-end}
use Rattle.std.proofs.lemmas.List.{map-id}
use Rattle.nextest_filter_matchers.specs.Printing.{pattern_character, printed_pattern}
use Rattle.nextest_filter_matchers.proofs.PrintFacts.{printed_pattern-push, escaped_after-push}
use Rattle.nextest_filter_matchers.proofs.escaped.write_pattern.Goals as goal

pub loop-c-preserved-then-c-eq92 : goal.loop-c-preserved-then-c-eq92
loop-c-preserved-then-c-eq92 g c =
    let e = c.loop-c.invariant.escaped in
    record {
      written = λ plain. has_written_of_eq _ _ _ _ _ (ap (λ b. printed_pattern false c.loop-c.yielded ++ pattern_character b c.in-Some.c) e ∙ printed_pattern-push false c.loop-c.yielded c.in-Some.c) (has_written_append _ _ _ _ _ _ (c.loop-c.invariant.written plain) (search rules));
      escaped = ap not e ∙ sym (escaped_after-push false c.loop-c.yielded c.in-Some.c ∙ rw c.if-c-eq92.true refl);
    }

pub loop-c-preserved : goal.loop-c-preserved
loop-c-preserved g c =
    let e = c.loop-c.invariant.escaped in
    record {
      written = λ plain. has_written_of_eq _ _ _ _ _ (ap (λ b. printed_pattern false c.loop-c.yielded ++ pattern_character b c.in-Some.c) e ∙ printed_pattern-push false c.loop-c.yielded c.in-Some.c) (has_written_append _ _ _ _ _ _ (c.loop-c.invariant.written plain) (search rules));
      escaped = grind (arith, escaped_after-push false c.loop-c.yielded c.in-Some.c);
    }

pub returns : goal.returns
returns g c plain ok =
    let end = YieldsList-end (YieldsList-from_chars c.args.pattern.now c.utf8.pattern cc) c.loop-c.yielded _ c.loop-c.yielded_by _ _ c.in-None.is c.next.ensures.steps in
    has_written_of_eq _ _ _ _ _ (ap (printed_pattern false) (simp map-id at end.0)) (c.loop-c.invariant.written plain)
