use Rattle.clap.specs.Words.{found_of, rows_of}
use Rattle.test_select_files.proofs.VerdictFacts.{check_ends, check_stops}
use Rattle.test_select_files.proofs.verdicts.print_verdict.Goals as goal

pub returns-in_err-read-clause-prints : goal.returns-in_err-read-clause-prints
returns-in_err-read-clause-prints g c =
    check_stops (rows_of (found_of c.args.asked.now)) c.in_err-read.field-0.0 _ _ c.from_residual.ensures.1 c.in_err-read.ensures.reads

pub returns-clause-prints : goal.returns-clause-prints
returns-clause-prints g c =
    check_ends (rows_of (found_of c.args.asked.now)) c.in_ok-read.read.0 c.in_ok-read.read.1 _ _ _ c.in_ok-read.ensures.reads c.print_verdict_on.ensures.prints
