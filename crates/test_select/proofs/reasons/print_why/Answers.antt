use Rattle.std.proofs.Common.{◌≡◌, ◌∙◌, ap, not, rules, string_bytes, sym}
use Rattle.clap.specs.Words.{found_of, rows_of}
use Rattle.test_select.specs.Selections.{PrintsWhy, ReadsTests, SaysWhy, reason_line, says_no}
use Rattle.test_select.proofs.PrintingFacts.{beginning_prints, denial_prints, memory_prints, refusal_prints, text_prints}
use Rattle.test_select.proofs.SelectionFacts.{reading_ends, reading_stops}
use Rattle.test_select.proofs.reasons.print_why.Goals as goal

pub returns-in_err-question-clause-prints : goal.returns-in_err-question-clause-prints
returns-in_err-question-clause-prints g c =
    let words = rows_of (found_of c.args.asked.now) in
    reading_stops (ReadsTests words) (λ files. PrintsWhy words files.0 files.1) c.in_err-question.field-0.0 _ _ c.from_residual.ensures.1 c.in_err-question.ensures.reads

pub returns-in_err-reason-clause-prints : goal.returns-in_err-reason-clause-prints
returns-in_err-reason-clause-prints g c =
    let words = rows_of (found_of c.args.asked.now) in
    let q = c.in_ok-question.question in
    let listings = c.in_ok-question.listings in
    reading_ends (ReadsTests words) (λ files. PrintsWhy words files.0 files.1) (q, listings) _ _ _ c.in_ok-question.ensures.reads
    (refusal_prints (SaysWhy words q listings) (λ reason text. text ≡ reason_line reason) says_no _ _ c.in_err-reason.field-0.0 c.from_residual-in_err-reason.ensures.1 c.in_err-reason.ensures.says)

pub returns-in_err-line-clause-prints : goal.returns-in_err-line-clause-prints
returns-in_err-line-clause-prints g c =
    let words = rows_of (found_of c.args.asked.now) in
    let q = c.in_ok-question.question in
    let listings = c.in_ok-question.listings in
    reading_ends (ReadsTests words) (λ files. PrintsWhy words files.0 files.1) (q, listings) _ _ _ c.in_ok-question.ensures.reads
    (memory_prints (SaysWhy words q listings) (λ reason text. text ≡ reason_line reason) says_no _ _ c.from_residual-in_err-line.ensures.1)

pub returns-in_err-write_out-clause-prints : goal.returns-in_err-write_out-clause-prints
returns-in_err-write_out-clause-prints g c =
    let words = rows_of (found_of c.args.asked.now) in
    let q = c.in_ok-question.question in
    let listings = c.in_ok-question.listings in
    let lent : c.as_bytes.result.now ≡ string_bytes c.in_ok-line.line = search rules in
    reading_ends (ReadsTests words) (λ files. PrintsWhy words files.0 files.1) (q, listings) _ _ _ c.in_ok-question.ensures.reads
    (beginning_prints (SaysWhy words q listings) (λ reason text. text ≡ reason_line reason) says_no c.in_ok-reason.reason c.in_ok-reason.ensures.says c.as_bytes.result.now (lent ∙ c.in_ok-line.ensures.text) _ _ _ c.from_residual-in_err-write_out.ensures.1 c.in_err-write_out.ensures.writes)

pub returns-then-says_yes-clause-prints : goal.returns-then-says_yes-clause-prints
returns-then-says_yes-clause-prints g c =
    let words = rows_of (found_of c.args.asked.now) in
    let q = c.in_ok-question.question in
    let listings = c.in_ok-question.listings in
    let lent : c.as_bytes.result.now ≡ string_bytes c.in_ok-line.line = search rules in
    reading_ends (ReadsTests words) (λ files. PrintsWhy words files.0 files.1) (q, listings) _ _ _ c.in_ok-question.ensures.reads
    (text_prints (SaysWhy words q listings) (λ reason text. text ≡ reason_line reason) says_no c.in_ok-reason.reason c.in_ok-reason.ensures.says c.as_bytes.result.now (lent ∙ c.in_ok-line.ensures.text) _ _
    (ap not (sym c.says_yes.ensures.yes ∙ c.if-says_yes.true)) c.in_ok-write_out.ensures.writes)

pub returns-clause-prints : goal.returns-clause-prints
returns-clause-prints g c =
    let words = rows_of (found_of c.args.asked.now) in
    let q = c.in_ok-question.question in
    let listings = c.in_ok-question.listings in
    let lent : c.as_bytes.result.now ≡ string_bytes c.in_ok-line.line = search rules in
    reading_ends (ReadsTests words) (λ files. PrintsWhy words files.0 files.1) (q, listings) _ _ _ c.in_ok-question.ensures.reads
    (denial_prints (SaysWhy words q listings) (λ reason text. text ≡ reason_line reason) says_no c.in_ok-reason.reason c.in_ok-reason.ensures.says c.as_bytes.result.now (lent ∙ c.in_ok-line.ensures.text) _ _
    (ap not (sym c.says_yes.ensures.yes ∙ c.if-says_yes.false)) c.in_ok-write_out.ensures.writes)
