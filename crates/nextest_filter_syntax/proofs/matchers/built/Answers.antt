use Rattle.std.proofs.Common.{◌≡◌, ◌∙◌, Bool, true, false, refl, sym, arith}
use Rattle.nextest_filter_tokens.proofs.SpanFacts.{open_where_clean, spans_more}
use Rattle.nextest_filter_syntax.proofs.matchers.built.Goals as goal

pub returns-in_ok-regex-in-Some-clause-within : goal.returns-in_ok-regex-in-Some-clause-within
returns-in_ok-regex-in-Some-clause-within c n old within =
    old

pub returns-in_ok-regex-in-Some-clause-over : goal.returns-in_ok-regex-in-Some-clause-over
returns-in_ok-regex-in-Some-clause-over c text old lies =
    old

pub returns-in_ok-report-in-None-clause-within : goal.returns-in_ok-report-in-None-clause-within
returns-in_ok-report-in-None-clause-within c n old within =
    c.in_ok-report-in-None.ensures.within n old within

pub returns-in_ok-report-in-None-clause-spoils : goal.returns-in_ok-report-in-None-clause-spoils
returns-in_ok-report-in-None-clause-spoils c =
    (tt, c.in_ok-report-in-None.ensures.some)

pub returns-in_ok-report-in-None-clause-over : goal.returns-in_ok-report-in-None-clause-over
returns-in_ok-report-in-None-clause-over c text old lies = c.in_ok-report-in-None.ensures.over text old (λ _. lies)

pub returns-in_ok-report-in-None-clause-refused : goal.returns-in_ok-report-in-None-clause-refused
returns-in_ok-report-in-None-clause-refused c clean =
    let report = c.in_ok-report-in-None.ensures in
    let unclosed = open_where_clean c.args.faults.now (sym (report.pattern refl) ∙ clean) in
    rw (report.added unclosed) (spans_more c.args.faults.now.list.items _ refl)
