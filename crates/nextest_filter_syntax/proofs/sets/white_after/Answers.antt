use Rattle.std.proofs.Common.{refl, arith, length}
use Rattle.nextest_filter_syntax.proofs.LeafStepFacts.{grows_same}
use Rattle.nextest_filter_syntax.proofs.sets.white_after.Goals as goal

pub returns-then-is_empty-clause-up_to : goal.returns-then-is_empty-clause-up_to
returns-then-is_empty-clause-up_to c =
    c.close_place-end.ensures.up_to

pub returns-then-is_empty-clause-grows : goal.returns-then-is_empty-clause-grows
returns-then-is_empty-clause-grows c =
    grows_same c.args.text.now c.args.faults.now c.requires.faults

pub returns-clause-up_to : goal.returns-clause-up_to
returns-clause-up_to c =
    c.close_place-end.ensures.up_to

pub returns-clause-grows : goal.returns-clause-grows
returns-clause-grows c =
    let report = c.in_ok-report.ensures in
    let up_to = c.close_place-end.ensures.up_to in
    let within = report.within (length c.args.text.now) c.requires.faults.0 (omega (arith, up_to.rises, up_to.end)) in
    (report.grows, report.keeps_syntax, (within, report.same_over c.args.text.now c.requires.faults.1 refl))

pub returns-clause-keeps : goal.returns-clause-keeps
returns-clause-keeps c =
    c.in_ok-report.ensures.keeps_patterns refl

pub returns-clause-read : goal.returns-clause-read
returns-clause-read c clean =
    absurd (omega (arith, clean, c.in_ok-report.ensures.syntax refl))
