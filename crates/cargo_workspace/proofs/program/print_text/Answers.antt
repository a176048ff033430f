use Rattle.std.proofs.Common.{◌++◌, codes, rules}
use Rattle.std.specs.Io.KnownBytes.{Appends}
use Rattle.test_select_files.proofs.RunFacts.{flushed_writes}
use Rattle.cargo_workspace.proofs.program.print_text.Goals as goal

pub returns-in_err-flush-clause-writes : goal.returns-in_err-flush-clause-writes
returns-in_err-flush-clause-writes g c =
    let old = g.O.Write.contents c.args.out.now in
    let mid = g.O.Write.contents c.write_pieces.new.writer in
    let written : Appends old mid (c.args.text.now ++ codes "\n") = search rules in
    flushed_writes (c.args.text.now ++ codes "\n") old mid _ c.from_residual-in_err-flush.result written c.in_err-flush.ensures.bytes
