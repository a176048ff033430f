use Rattle.std.proofs.Common.{◌≡◌, refl, rules}
use Rattle.clap.specs.Words.{found_of, rows_of}
use Rattle.test_select.specs.Asking.{asks_in, filters_in, scope_in}
use Rattle.test_select.specs.Printing.{never}
use Rattle.test_select.specs.Runs.{ListsBinaries}
use Rattle.test_select.specs.Selections.{PrintsBinaries, id_lines}
use Rattle.test_select.proofs.PrintingFacts.{beginning_prints, order_lines, question_ends, question_stops, refusal_prints, text_prints}
use Rattle.test_select.proofs.binaries.print_binaries.Goals as goal

pub returns-in_err-question-clause-prints : goal.returns-in_err-question-clause-prints
returns-in_err-question-clause-prints g c =
    let words = rows_of (found_of c.args.asked.now) in
    question_stops words _ c.named_files.ensures.named (PrintsBinaries words) c.in_err-question.field-0.0 _ _ c.from_residual.ensures.1 c.in_err-question.ensures.reads

pub returns-in_err-ids-clause-prints : goal.returns-in_err-ids-clause-prints
returns-in_err-ids-clause-prints g c =
    let words = rows_of (found_of c.args.asked.now) in
    let q = c.in_ok-question.question in
    question_ends words _ c.named_files.ensures.named (PrintsBinaries words) q _ _ _ c.in_ok-question.ensures.reads
    (refusal_prints (ListsBinaries q (scope_in words) (filters_in words) (asks_in words)) (λ ids text. text ≡ id_lines ids) never _ _ c.in_err-ids.field-0.0 c.from_residual-in_err-ids.ensures.1 c.in_err-ids.ensures.lists)

pub returns-in_err-write_order-clause-prints : goal.returns-in_err-write_order-clause-prints
returns-in_err-write_order-clause-prints g c =
    let words = rows_of (found_of c.args.asked.now) in
    let q = c.in_ok-question.question in
    let lent : c.deref.result.now ≡ c.in_ok-ids.ids.items = search rules in
    question_ends words _ c.named_files.ensures.named (PrintsBinaries words) q _ _ _ c.in_ok-question.ensures.reads
    (beginning_prints (ListsBinaries q (scope_in words) (filters_in words) (asks_in words)) (λ ids text. text ≡ id_lines ids) never c.in_ok-ids.ids c.in_ok-ids.ensures.lists _
    (order_lines _ _ lent) _ _ _ c.from_residual-in_err-write_order.ensures.1 c.in_err-write_order.ensures.writes)

pub returns-clause-prints : goal.returns-clause-prints
returns-clause-prints g c =
    let words = rows_of (found_of c.args.asked.now) in
    let q = c.in_ok-question.question in
    let lent : c.deref.result.now ≡ c.in_ok-ids.ids.items = search rules in
    question_ends words _ c.named_files.ensures.named (PrintsBinaries words) q _ _ _ c.in_ok-question.ensures.reads
    (text_prints (ListsBinaries q (scope_in words) (filters_in words) (asks_in words)) (λ ids text. text ≡ id_lines ids) never c.in_ok-ids.ids c.in_ok-ids.ensures.lists _
    (order_lines _ _ lent) _ _ refl c.in_ok-write_order.ensures.writes)
