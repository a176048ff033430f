use Rattle.std.proofs.Common.{◌++◌, ◌∙◌, inl, inr, sym, ap, subst, string_bytes, arith}
use Rattle.std.proofs.lemmas.Bool.{false≢true, cases_Bool}
use Rattle.std.specs.Char.{encode_utf8}
use Rattle.nextest_filter_tokens.specs.Texts.{ReadsText}
use Rattle.nextest_filter_tokens.proofs.TextFacts.{IsPart, run_between, part_ended, part_spoiled, escape_taken, boundary_after_backslash, within_text}
use Rattle.nextest_filter_tokens.proofs.texts.text_from.Goals as goal

pub returns-then-is_whole-clause-goes_on : goal.returns-then-is_whole-clause-goes_on
returns-then-is_whole-clause-goes_on c =
    let on = c.loop-value.invariant.goes_on in
    (omega (arith, on.0, c.plain_end-end.ensures.rises), c.plain_end-end.ensures.end, on.2)

pub returns-then-is_text_end-clause-goes_on : goal.returns-then-is_text_end-clause-goes_on
returns-then-is_text_end-clause-goes_on c =
    let on = c.loop-value.invariant.goes_on in
    (omega (arith, on.0, c.plain_end-end.ensures.rises), c.plain_end-end.ensures.end, on.2)

pub returns-then-is_text_end-clause-spoiled : goal.returns-then-is_text_end-clause-spoiled
returns-then-is_text_end-clause-spoiled c =
    c.loop-value.invariant.fault c.if-is_whole.false

pub returns-then-is_text_end-clause-unread : goal.returns-then-is_text_end-clause-unread
returns-then-is_text_end-clause-unread c =
    c.loop-value.invariant.unread c.if-is_whole.false

pub report_escape-requires-clause-faults : goal.report_escape-requires-clause-faults
report_escape-requires-clause-faults c =
    c.loop-value.invariant.goes_on.2.2

pub returns-then-is_whole-clause-whole : goal.returns-then-is_whole-clause-whole
returns-then-is_whole-clause-whole c =
    let text = c.args.text.now in
    let end = c.plain_end-end.result in
    let run = run_between text c.args.at c.loop-value.place end (string_bytes c.loop-value.value) c.plain_end-end.ensures.rises c.plain_end-end.ensures.plain (c.loop-value.invariant.part c.if-is_whole.true) in
    let bytes = c.in_ok-push_str.ensures.bytes ∙ ap (λ t. string_bytes c.loop-value.value ++ t) c.range.ensures.value in
    let ends = sym c.is_text_end.ensures ∙ c.if-is_text_end.true in
    (subst (λ v. ReadsText text c.args.at v end) (sym bytes) (part_ended text c.args.at end _ ends run), c.loop-value.invariant.same c.if-is_whole.true)

pub loop-value-preserved-in-Means : goal.loop-value-preserved-in-Means
loop-value-preserved-in-Means c =
    let text = c.args.text.now in
    let end = c.plain_end-end.result in
    let goes = sym c.is_text_end.ensures ∙ c.if-is_text_end.false in
    let before = c.loop-value.invariant.goes_on in
    let bytes = c.in_ok-push-in-Means.ensures.bytes ∙ ap (λ t. t ++ encode_utf8 c.in-Means.c) (c.in_ok-push_str.ensures.bytes ∙ ap (λ t. string_bytes c.loop-value.value ++ t) c.range.ensures.value) in
    record {
      goes_on = (omega (arith, c.in-Means.ensures.end.0, c.plain_end-end.ensures.rises, before.0), c.in-Means.ensures.end.1, before.2);
      boundary = c.in-Means.ensures.end.2;
      part = λ whole.
          let run = run_between text c.args.at c.loop-value.place end (string_bytes c.loop-value.value) c.plain_end-end.ensures.rises c.plain_end-end.ensures.plain (c.loop-value.invariant.part whole) in
          subst (λ v. IsPart text c.args.at c.in-Means.next v) (sym bytes) (escape_taken text c.args.at end c.in-Means.next c.in-Means.c _ c.plain_end-end.ensures.stops goes (sym c.in-Means.ensures.value) run);
      same = c.loop-value.invariant.same;
      fault = c.loop-value.invariant.fault;
      unread = c.loop-value.invariant.unread;
    }

pub loop-value-preserved : goal.loop-value-preserved
loop-value-preserved c =
    let text = c.args.text.now in
    let end = c.plain_end-end.result in
    let goes = sym c.is_text_end.ensures ∙ c.if-is_text_end.false in
    let before = c.loop-value.invariant.goes_on in
    let reported = c.in_ok-report_escape-in-Invalid.ensures in
    let grows = reported.grows in
    let inside = within_text text end goes in
    record {
      goes_on = (omega (arith, c.plain_end-end.ensures.rises, before.0), omega (arith, inside), (omega (arith, before.2.0, grows.0), omega (arith, before.2.1, grows.1), grows.2));
      boundary = boundary_after_backslash text end c.utf8.text c.plain_end-end.ensures.stops goes;
      part = λ e. absurd (false≢true e);
      same = λ e. absurd (false≢true e);
      fault = λ _. reported.fault;
      unread = λ _.
          elim (cases_Bool c.loop-value.is_whole) [
            | inl whole ↦
                let run = run_between text c.args.at c.loop-value.place end (string_bytes c.loop-value.value) c.plain_end-end.ensures.rises c.plain_end-end.ensures.plain (c.loop-value.invariant.part whole) in
                part_spoiled text c.args.at end _ c.plain_end-end.ensures.stops goes (sym c.in-Invalid.ensures.value) run
            | inr spoiled ↦ c.loop-value.invariant.unread spoiled
          ];
    }
