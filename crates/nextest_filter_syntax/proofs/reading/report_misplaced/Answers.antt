use Rattle.std.proofs.Common.{arith, length}
use Rattle.nextest_filter_tokens.specs.FaultLists.{LiesWithin}
use Rattle.nextest_filter_syntax.proofs.reading.report_misplaced.Goals as goal

pub returns-clause-grows : goal.returns-clause-grows
returns-clause-grows c =
    let report = c.in_ok-report.ensures in
    let lies : LiesWithin (length c.args.text.now) c.misplaced.result = rw c.misplaced.ensures.span (omega (arith, c.requires.rises, c.requires.end)) in
    (report.grows, report.keeps_syntax, (report.within (length c.args.text.now) c.requires.faults.0 lies, report.same_over c.args.text.now c.requires.faults.1 c.misplaced.ensures.syntax))
