use Rattle.std.proofs.Common.{refl}
use Rattle.clap.specs.Words.{found_of, rows_of}
use Rattle.test_select.specs.Printing.{never}
use Rattle.test_select.specs.Selections.{IsTextOf, PrintsTests, ReadsTests, Selects, ShowsTests}
use Rattle.test_select.proofs.PrintingFacts.{memory_prints, refusal_prints}
use Rattle.test_select.proofs.SelectionFacts.{form_prints, reading_ends, reading_stops, text_of_part}
use Rattle.test_select.proofs.selections.print_tests.Goals as goal

pub returns-in_err-question-clause-prints : goal.returns-in_err-question-clause-prints
returns-in_err-question-clause-prints g c =
    let words = rows_of (found_of c.args.asked.now) in
    reading_stops (ReadsTests words) (λ files. PrintsTests words files.0 files.1) c.in_err-question.field-0.0 _ _ c.from_residual.ensures.1 c.in_err-question.ensures.reads

pub returns-in_err-selection-clause-prints : goal.returns-in_err-selection-clause-prints
returns-in_err-selection-clause-prints g c =
    let words = rows_of (found_of c.args.asked.now) in
    let q = c.in_ok-question.question in
    let listings = c.in_ok-question.listings in
    reading_ends (ReadsTests words) (λ files. PrintsTests words files.0 files.1) (q, listings) _ _ _ c.in_ok-question.ensures.reads
    (refusal_prints (Selects words q listings) (IsTextOf words) never _ _ c.in_err-selection.field-0.0 c.from_residual-in_err-selection.ensures.1 c.in_err-selection.ensures.selects)

pub returns-in_err-chosen-clause-prints : goal.returns-in_err-chosen-clause-prints
returns-in_err-chosen-clause-prints g c =
    let words = rows_of (found_of c.args.asked.now) in
    let q = c.in_ok-question.question in
    let listings = c.in_ok-question.listings in
    reading_ends (ReadsTests words) (λ files. PrintsTests words files.0 files.1) (q, listings) _ _ _ c.in_ok-question.ensures.reads
    (memory_prints (Selects words q listings) (IsTextOf words) never _ _ c.from_residual-in_err-chosen.ensures.1)

pub returns-clause-prints : goal.returns-clause-prints
returns-clause-prints g c =
    let words = rows_of (found_of c.args.asked.now) in
    let q = c.in_ok-question.question in
    let listings = c.in_ok-question.listings in
    reading_ends (ReadsTests words) (λ files. PrintsTests words files.0 files.1) (q, listings) _ _ _ c.in_ok-question.ensures.reads
    (form_prints (Selects words q listings) (IsTextOf words) never c.in_ok-selection.selection c.in_ok-selection.ensures.selects _ _ (ShowsTests c.is_json.result c.in_ok-chosen.chosen.chosen) refl
    (text_of_part words c.in_ok-selection.selection c.is_json.result c.in_ok-chosen.chosen.chosen c.is_json.ensures.given c.in_ok-chosen.ensures.part) _ c.write_selection.ensures.prints)
