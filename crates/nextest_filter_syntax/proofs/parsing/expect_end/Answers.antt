use Rattle.std.proofs.Common.{refl, arith, length}
use Rattle.nextest_filter_syntax.proofs.parsing.expect_end.Goals as goal

pub returns-clause-grows : goal.returns-clause-grows
returns-clause-grows c =
    let report = c.in_ok-report.ensures in
    let within = report.within (length c.args.text.now) c.requires.faults.0 (omega (arith, c.rest_of.ensures)) in
    (report.grows, report.keeps_syntax, (within, report.same_over c.args.text.now c.requires.faults.1 refl))
