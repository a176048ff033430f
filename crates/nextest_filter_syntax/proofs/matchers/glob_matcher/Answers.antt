use Rattle.std.proofs.Common.{refl}
use Rattle.nextest_filter_syntax.proofs.matchers.glob_matcher.Goals as goal

pub returns-in_ok-report-in-Err-clause-grows : goal.returns-in_ok-report-in-Err-clause-grows
returns-in_ok-report-in-Err-clause-grows c =
    let report = c.in_ok-report-in-Err.ensures in
    (report.grows, report.keeps_syntax, λ n old within. report.within n old within, λ text old. report.same_over text old refl)
