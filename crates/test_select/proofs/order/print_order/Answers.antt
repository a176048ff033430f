use Rattle.std.proofs.Common.{◌≡◌, flat_map, refl, rules}
use Rattle.clap.specs.Words.{found_of, rows_of}
use Rattle.list_facts.specs.Texts.{texts}
use Rattle.test_select_features.specs.Orders.{Orders as OrdersPackages}
use Rattle.test_select.specs.FeatureCommands.{PrintsOrder}
use Rattle.test_select.specs.Orders.{order_line}
use Rattle.test_select.specs.Printing.{never}
use Rattle.test_select.proofs.PrintingFacts.{beginning_prints, order_lines, question_ends, question_stops, refusal_prints, text_prints}
use Rattle.test_select.proofs.order.print_order.Goals as goal

pub returns-in_err-question-clause-prints : goal.returns-in_err-question-clause-prints
returns-in_err-question-clause-prints g c =
    question_stops (rows_of (found_of c.args.asked.now)) _ c.named_files.ensures.named PrintsOrder c.in_err-question.field-0.0 _ _ c.from_residual.ensures.1 c.in_err-question.ensures.reads

pub returns-in_err-ids-clause-prints : goal.returns-in_err-ids-clause-prints
returns-in_err-ids-clause-prints g c =
    let q = c.in_ok-question.question in
    question_ends (rows_of (found_of c.args.asked.now)) _ c.named_files.ensures.named PrintsOrder q _ _ _ c.in_ok-question.ensures.reads
    (refusal_prints (OrdersPackages q.record.value q.choice q.table) (λ ids text. text ≡ flat_map order_line (texts ids.items)) never _ _ c.in_err-ids.field-0.0 c.from_residual-in_err-ids.ensures.1 c.in_err-ids.ensures.order)

pub returns-in_err-write_order-clause-prints : goal.returns-in_err-write_order-clause-prints
returns-in_err-write_order-clause-prints g c =
    let q = c.in_ok-question.question in
    let lent : c.deref.result.now ≡ c.in_ok-ids.ids.items = search rules in
    question_ends (rows_of (found_of c.args.asked.now)) _ c.named_files.ensures.named PrintsOrder q _ _ _ c.in_ok-question.ensures.reads
    (beginning_prints (OrdersPackages q.record.value q.choice q.table) (λ ids text. text ≡ flat_map order_line (texts ids.items)) never c.in_ok-ids.ids c.in_ok-ids.ensures.order _
    (order_lines _ _ lent) _ _ _ c.from_residual-in_err-write_order.ensures.1 c.in_err-write_order.ensures.writes)

pub returns-clause-prints : goal.returns-clause-prints
returns-clause-prints g c =
    let q = c.in_ok-question.question in
    let lent : c.deref.result.now ≡ c.in_ok-ids.ids.items = search rules in
    question_ends (rows_of (found_of c.args.asked.now)) _ c.named_files.ensures.named PrintsOrder q _ _ _ c.in_ok-question.ensures.reads
    (text_prints (OrdersPackages q.record.value q.choice q.table) (λ ids text. text ≡ flat_map order_line (texts ids.items)) never c.in_ok-ids.ids c.in_ok-ids.ensures.order _
    (order_lines _ _ lent) _ _ refl c.in_ok-write_order.ensures.writes)
