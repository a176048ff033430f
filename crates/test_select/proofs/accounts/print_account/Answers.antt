use Rattle.std.proofs.Common.{◌≡◌, ◌∙◌, ap, codes, refl, rules, subst, sym}
use Rattle.clap.specs.Words.{found_of, rows_of}
use Rattle.feature_account_making.specs.ReadBackLaws.{AreSizes}
use Rattle.test_select_features.specs.Switching.{Accounts}
use Rattle.test_select_files.specs.Words.{is_given}
use Rattle.test_select.specs.AccountCommands.{IsAccountText, PrintsAccount, lines_of}
use Rattle.test_select.specs.Printing.{never}
use Rattle.test_select.proofs.PrintingFacts.{account_for_people, account_as_numbers, question_ends, question_stops, refusal_prints, shown_prints, text_prints, unwritten_prints}
use Rattle.test_select.proofs.accounts.print_account.Goals as goal

pub returns-in_err-question-clause-prints : goal.returns-in_err-question-clause-prints
returns-in_err-question-clause-prints g c =
    let words = rows_of (found_of c.args.asked.now) in
    question_stops words _ c.named_files.ensures.named (PrintsAccount (is_given (codes "readable") words)) c.in_err-question.field-0.0 _ _ c.from_residual.ensures.1 c.in_err-question.ensures.reads

pub returns-in_err-account-clause-prints : goal.returns-in_err-account-clause-prints
returns-in_err-account-clause-prints g c =
    let words = rows_of (found_of c.args.asked.now) in
    let q = c.in_ok-question.question in
    question_ends words _ c.named_files.ensures.named (PrintsAccount (is_given (codes "readable") words)) q _ _ _ c.in_ok-question.ensures.reads
    (refusal_prints (Accounts q.record.value q.choice q.table) (λ account. IsAccountText q (is_given (codes "readable") words) account.rules.items) never _ _ c.in_err-account.field-0.0 c.from_residual-in_err-account.ensures.1 c.in_err-account.ensures.accounts)

pub returns-then-is_given-clause-prints : goal.returns-then-is_given-clause-prints
returns-then-is_given-clause-prints g c =
    let words = rows_of (found_of c.args.asked.now) in
    let q = c.in_ok-question.question in
    let entries = c.in_ok-account.account.rules.items in
    let lent : c.as_slice-numbers.result.now ≡ entries = search rules in
    let sizes : AreSizes entries = subst AreSizes lent c.are_sizes.ensures.sizes in
    question_ends words _ c.named_files.ensures.named (PrintsAccount (is_given (codes "readable") words)) q _ _ _ c.in_ok-question.ensures.reads
    (shown_prints (Accounts q.record.value q.choice q.table) (λ account. IsAccountText q (is_given (codes "readable") words) account.rules.items) never c.in_ok-account.account c.in_ok-account.ensures.accounts (lines_of q entries)
    (record { shown = account_for_people q entries (is_given (codes "readable") words) (sym c.is_given.ensures.given ∙ c.if-is_given.true); sizes = sizes }) _ _ refl _ (lines_of q c.as_slice-numbers.result.now) (sym (ap (lines_of q) lent)) c.print_entries.ensures.prints)

pub returns-in_err-write_account-clause-prints : goal.returns-in_err-write_account-clause-prints
returns-in_err-write_account-clause-prints g c =
    let words = rows_of (found_of c.args.asked.now) in
    let q = c.in_ok-question.question in
    let entries = c.in_ok-account.account.rules.items in
    let lent : c.as_slice-numbers.result.now ≡ entries = search rules in
    let sizes : AreSizes entries = subst AreSizes lent c.are_sizes.ensures.sizes in
    question_ends words _ c.named_files.ensures.named (PrintsAccount (is_given (codes "readable") words)) q _ _ _ c.in_ok-question.ensures.reads
    (unwritten_prints (Accounts q.record.value q.choice q.table) (λ account. IsAccountText q (is_given (codes "readable") words) account.rules.items) never c.in_ok-account.account c.in_ok-account.ensures.accounts _
    (record { shown = account_as_numbers q entries _ (is_given (codes "readable") words) lent (sym c.is_given.ensures.given ∙ c.if-is_given.false); sizes = sizes }) _ _ c.in_err-write_account.field-0.0 _ c.from_residual-in_err-write_account.ensures.1 c.in_err-write_account.ensures.writes c.in_err-write_account.ensures.memory)

pub returns-clause-prints : goal.returns-clause-prints
returns-clause-prints g c =
    let words = rows_of (found_of c.args.asked.now) in
    let q = c.in_ok-question.question in
    let entries = c.in_ok-account.account.rules.items in
    let lent : c.as_slice-numbers.result.now ≡ entries = search rules in
    let sizes : AreSizes entries = subst AreSizes lent c.are_sizes.ensures.sizes in
    question_ends words _ c.named_files.ensures.named (PrintsAccount (is_given (codes "readable") words)) q _ _ _ c.in_ok-question.ensures.reads
    (text_prints (Accounts q.record.value q.choice q.table) (λ account. IsAccountText q (is_given (codes "readable") words) account.rules.items) never c.in_ok-account.account c.in_ok-account.ensures.accounts _
    (record { shown = account_as_numbers q entries _ (is_given (codes "readable") words) lent (sym c.is_given.ensures.given ∙ c.if-is_given.false); sizes = sizes }) _ _ refl c.in_ok-write_account.ensures.writes)
