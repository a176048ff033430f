use Rattle.clap.specs.Words.{subcommand_rows_of}
use Rattle.test_select.proofs.RunFacts.{flushed_ends, unflushed_ends}
use Rattle.test_select.proofs.program.carry_out.Goals as goal

pub returns-in_err-flush-clause-ends : goal.returns-in_err-flush-clause-ends
returns-in_err-flush-clause-ends g c =
    unflushed_ends (subcommand_rows_of c.args.matches.now) (g.O.Write.contents c.args.out.now) (g.O.Write.contents c.print_asked.new.out) _ c.flush.ensures.bytes _ c.from_residual-in_err-flush.ensures.1 c.in_ok-print_asked.ensures.ends

pub returns-clause-ends : goal.returns-clause-ends
returns-clause-ends g c =
    flushed_ends (subcommand_rows_of c.args.matches.now) (g.O.Write.contents c.args.out.now) (g.O.Write.contents c.print_asked.new.out) _ c.flush.ensures.bytes c.in_ok-print_asked.ensures.ends
