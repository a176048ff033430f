use Rattle.std.proofs.Common.{◌∙◌, ap, arith, length}
use Rattle.nextest_filter_tokens.specs.FaultLists.{LiesWithin}
use Rattle.nextest_filter_syntax.specs.Grammar.{found_at}
use Rattle.nextest_filter_syntax.proofs.LeafStepFacts.{grows_same}
use Rattle.nextest_filter_syntax.proofs.between.operator_after.Goals as goal

pub returns-in-Joins-clause-value : goal.returns-in-Joins-clause-value
returns-in-Joins-clause-value c =
    c.in-Joins.ensures.value ∙ ap (found_at c.args.text.now c.args.level) c.skip_blanks-place.ensures.value

pub returns-in-Joins-clause-grows : goal.returns-in-Joins-clause-grows
returns-in-Joins-clause-grows c =
    grows_same c.args.text.now c.args.faults.now c.requires.faults

pub returns-in-Nothing-clause-value : goal.returns-in-Nothing-clause-value
returns-in-Nothing-clause-value c =
    c.in-Nothing.ensures.value ∙ ap (found_at c.args.text.now c.args.level) c.skip_blanks-place.ensures.value

pub returns-in-Nothing-clause-grows : goal.returns-in-Nothing-clause-grows
returns-in-Nothing-clause-grows c =
    grows_same c.args.text.now c.args.faults.now c.requires.faults

pub returns-in_ok-report-in-Wrong-clause-value : goal.returns-in_ok-report-in-Wrong-clause-value
returns-in_ok-report-in-Wrong-clause-value c =
    c.in-Wrong.ensures.value ∙ ap (found_at c.args.text.now c.args.level) c.skip_blanks-place.ensures.value

pub returns-in_ok-report-in-Wrong-clause-grows : goal.returns-in_ok-report-in-Wrong-clause-grows
returns-in_ok-report-in-Wrong-clause-grows c =
    let report = c.in_ok-report-in-Wrong.ensures in
    let end = c.in-Wrong.ensures.end in
    let lies : LiesWithin (length c.args.text.now) c.wrong_operator.result = rw c.wrong_operator.ensures.span (omega (arith, end.0, end.1)) in
    (report.grows, report.keeps_syntax, (report.within (length c.args.text.now) c.requires.faults.0 lies, report.same_over c.args.text.now c.requires.faults.1 c.wrong_operator.ensures.syntax))
