use Rattle.std.proofs.Common.{Bool, refl, subst, sym, true}
use Rattle.test_select_tests.specs.Selections.{report}
use Rattle.test_select.specs.Selections.{ShowsTests}
use Rattle.test_select.proofs.SelectionFacts.{form_asked, form_begun, form_written}
use Rattle.test_select.proofs.selections.write_selection.Goals as goal

pub returns-then-is_json-clause-prints : goal.returns-then-is_json-clause-prints
returns-then-is_json-clause-prints g c =
    form_asked c.args.is_json true c.args.selection.chosen _ _ _ c.if-is_json.true c.write_listings.ensures.prints

pub returns-in_err-write_report-clause-prints : goal.returns-in_err-write_report-clause-prints
returns-in_err-write_report-clause-prints g c =
    form_begun c.args.is_json c.args.selection.chosen (report c.args.selection.chosen)
    (subst (λ (b : Bool). ShowsTests b c.args.selection.chosen (report c.args.selection.chosen)) (sym c.if-is_json.false) refl)
    _ _ _ c.from_residual.ensures.1 c.in_err-write_report.ensures.writes

pub returns-clause-prints : goal.returns-clause-prints
returns-clause-prints g c =
    form_written c.args.is_json c.args.selection.chosen (report c.args.selection.chosen)
    (subst (λ (b : Bool). ShowsTests b c.args.selection.chosen (report c.args.selection.chosen)) (sym c.if-is_json.false) refl)
    _ _ c.in_ok-write_report.ensures.writes
