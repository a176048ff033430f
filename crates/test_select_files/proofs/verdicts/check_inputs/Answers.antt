use Rattle.std.proofs.Common.{codes}
use Rattle.clap.specs.Words.{found_of, rows_of}
use Rattle.record_files.specs.Accounts.{AccountValue, account_file}
use Rattle.test_select_files.proofs.ReadingFacts.{fails_with_file, read_with_file}
use Rattle.test_select_files.proofs.verdicts.check_inputs.Goals as goal

pub returns-in_err-account-clause-reads : goal.returns-in_err-account-clause-reads
returns-in_err-account-clause-reads g c =
    fails_with_file (λ (a : AccountValue). a) account_file (codes "account") (rows_of (found_of c.args.asked.now)) _ c.named_files.ensures.named _ c.account_file.ensures.named c.in_ok-question.question c.in_err-account.field-0.0 _ c.from_residual-in_err-account.ensures.1 c.in_ok-question.ensures.same c.in_ok-question.ensures.reads c.in_err-account.ensures.reads

pub returns-clause-reads : goal.returns-clause-reads
returns-clause-reads g c =
    read_with_file (λ (a : AccountValue). a) account_file (codes "account") (rows_of (found_of c.args.asked.now)) _ c.named_files.ensures.named _ c.account_file.ensures.named c.in_ok-question.question c.in_ok-account.account c.in_ok-question.ensures.same c.in_ok-question.ensures.reads c.in_ok-account.ensures.reads
