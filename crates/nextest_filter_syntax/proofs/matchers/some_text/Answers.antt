use Rattle.std.proofs.Common.{◌≡◌, ◌∙◌, refl, ap, arith, length, string_bytes}
use Rattle.nextest_filter_tokens.specs.FaultLists.{pattern_spans, syntax_faults}
use Rattle.nextest_filter_syntax.proofs.ReadFacts.{some_is}
use Rattle.nextest_filter_syntax.proofs.matchers.some_text.Goals as goal

pub returns-then-is_empty-clause-goes_on : goal.returns-then-is_empty-clause-goes_on
returns-then-is_empty-clause-goes_on c =
    let report = c.in_ok-report-in-Some.ensures in
    let on = c.in_ok-value.ensures.goes_on in
    let within = report.within (length c.args.text.now) on.2.2.0 (omega (arith, on.1)) in
    (on.0, on.1, (omega (arith, on.2.0, report.grows), omega (arith, on.2.1, report.keeps_syntax), (within, report.same_over c.args.text.now on.2.2.1 refl)))

pub returns-then-is_empty-clause-spoils : goal.returns-then-is_empty-clause-spoils
returns-then-is_empty-clause-spoils c =
    let whole = rw c.in-Some.is at c.in_ok-value.ensures.whole in
    (c.in_ok-report-in-Some.ensures.keeps_patterns refl ∙ ap pattern_spans whole.1, tt)

pub returns-then-is_empty-clause-read : goal.returns-then-is_empty-clause-read
returns-then-is_empty-clause-read c clean =
    absurd (omega (arith, clean, c.in_ok-report-in-Some.ensures.syntax refl))

pub returns-else-is_empty-clause-goes_on : goal.returns-else-is_empty-clause-goes_on
returns-else-is_empty-clause-goes_on c =
    c.in_ok-value.ensures.goes_on

pub returns-else-is_empty-clause-spoils : goal.returns-else-is_empty-clause-spoils
returns-else-is_empty-clause-spoils c =
    let whole = rw c.in-Some.is at c.in_ok-value.ensures.whole in
    (ap pattern_spans whole.1, tt)

pub returns-in-None-clause-goes_on : goal.returns-in-None-clause-goes_on
returns-in-None-clause-goes_on c =
    c.in_ok-value.ensures.goes_on

pub returns-in-None-clause-spoils : goal.returns-in-None-clause-spoils
returns-in-None-clause-spoils c =
    (tt, rw c.in-None.is at c.in_ok-value.ensures.spoiled)

pub returns-in-None-clause-only : goal.returns-in-None-clause-only
returns-in-None-clause-only c clean xs j reads =
    let unread = rw c.in-None.is at c.in_ok-value.ensures.unread in
    absurd (unread xs j reads.0)

pub returns-then-is_empty-clause-only : goal.returns-then-is_empty-clause-only
returns-then-is_empty-clause-only c clean xs j reads =
    let whole = rw c.in-Some.is at c.in_ok-value.ensures.whole in
    let same = some_is c.args.text.now whole.0 reads in
    let void : length (string_bytes c.in-Some.value) ≡ 0 = grind (arith, c.is_empty.ensures, c.if-is_empty.true) in
    absurd (omega (arith, void, same.2))

pub returns-else-is_empty-clause-only : goal.returns-else-is_empty-clause-only
returns-else-is_empty-clause-only c clean xs j reads =
    let whole = rw c.in-Some.is at c.in_ok-value.ensures.whole in
    let same = some_is c.args.text.now whole.0 reads in
    (same.1, ap syntax_faults whole.1 ∙ clean)
