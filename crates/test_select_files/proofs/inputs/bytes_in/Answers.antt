use Rattle.test_select_files.proofs.ReadingFacts.{unread_asks}
use Rattle.test_select_files.proofs.inputs.bytes_in.Goals as goal

pub returns-in-Err-clause-reads : goal.returns-in-Err-clause-reads
returns-in-Err-clause-reads g c = unread_asks c.args.name c.in-Err.fault _ c.unread.ensures.why c.in-Err.ensures.0
