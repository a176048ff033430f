use Rattle.std.proofs.Common.{◌≡◌, ◌∙◌, string_bytes, rules}
use Rattle.clap.specs.Words.{found_of, rows_of}
use Rattle.nextest_filter_syntax.specs.Trees.{tree_of}
use Rattle.test_select.specs.Changes.{PrintsChanged, ReadsChanges}
use Rattle.test_select.proofs.ChangeFacts.{beginning_prints, line_printed, line_prints, memory_prints, refusal_prints}
use Rattle.test_select.proofs.SelectionFacts.{reading_ends, reading_stops}
use Rattle.test_select.proofs.changes.print_changed.Goals as goal

pub returns-in_err-inputs-clause-prints : goal.returns-in_err-inputs-clause-prints
returns-in_err-inputs-clause-prints g c =
    let words = rows_of (found_of c.args.asked.now) in
    reading_stops (ReadsChanges words) (PrintsChanged words) c.in_err-inputs.field-0.0 _ _ c.from_residual.ensures.1 c.in_err-inputs.ensures.reads

pub returns-in_err-changed-clause-prints : goal.returns-in_err-changed-clause-prints
returns-in_err-changed-clause-prints g c =
    let words = rows_of (found_of c.args.asked.now) in
    reading_ends (ReadsChanges words) (PrintsChanged words) c.in_ok-inputs.inputs _ _ _ c.in_ok-inputs.ensures.reads
    (refusal_prints words c.in_ok-inputs.inputs c.in_err-changed.field-0.0 _ _ c.from_residual-in_err-changed.ensures.1 c.in_err-changed.ensures.changed)

pub returns-in_err-filter-clause-prints : goal.returns-in_err-filter-clause-prints
returns-in_err-filter-clause-prints g c =
    let words = rows_of (found_of c.args.asked.now) in
    reading_ends (ReadsChanges words) (PrintsChanged words) c.in_ok-inputs.inputs _ _ _ c.in_ok-inputs.ensures.reads
    (memory_prints words c.in_ok-inputs.inputs _ _ c.from_residual-in_err-filter.ensures.1)

pub returns-in_err-line-clause-prints : goal.returns-in_err-line-clause-prints
returns-in_err-line-clause-prints g c =
    let words = rows_of (found_of c.args.asked.now) in
    reading_ends (ReadsChanges words) (PrintsChanged words) c.in_ok-inputs.inputs _ _ _ c.in_ok-inputs.ensures.reads
    (memory_prints words c.in_ok-inputs.inputs _ _ c.from_residual-in_err-line.ensures.1)

pub returns-in_err-write_bytes-clause-prints : goal.returns-in_err-write_bytes-clause-prints
returns-in_err-write_bytes-clause-prints g c =
    let words = rows_of (found_of c.args.asked.now) in
    let lent : c.as_bytes.result.now ≡ string_bytes c.in_ok-line.line = search rules in
    reading_ends (ReadsChanges words) (PrintsChanged words) c.in_ok-inputs.inputs _ _ _ c.in_ok-inputs.ensures.reads
    (beginning_prints words c.in_ok-inputs.inputs c.in_ok-changed.changed c.in_ok-changed.ensures.changed c.as_bytes.result.now
    (lent ∙ c.in_ok-line.ensures.text ∙ line_printed (tree_of c.in_ok-filter.filter) c.in_ok-changed.changed c.in_ok-filter.ensures.tree) _ _ _ c.from_residual-in_err-write_bytes.ensures.1 c.in_err-write_bytes.ensures)

pub returns-clause-prints : goal.returns-clause-prints
returns-clause-prints g c =
    let words = rows_of (found_of c.args.asked.now) in
    let lent : c.as_bytes.result.now ≡ string_bytes c.in_ok-line.line = search rules in
    reading_ends (ReadsChanges words) (PrintsChanged words) c.in_ok-inputs.inputs _ _ _ c.in_ok-inputs.ensures.reads
    (line_prints words c.in_ok-inputs.inputs c.in_ok-changed.changed c.in_ok-changed.ensures.changed c.as_bytes.result.now
    (lent ∙ c.in_ok-line.ensures.text ∙ line_printed (tree_of c.in_ok-filter.filter) c.in_ok-changed.changed c.in_ok-filter.ensures.tree) _ _ c.in_ok-write_bytes.ensures)
