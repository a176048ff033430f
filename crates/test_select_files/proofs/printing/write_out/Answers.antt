use Rattle.test_select_files.proofs.RunFacts.{flushed_writes}
use Rattle.test_select_files.proofs.printing.write_out.Goals as goal

pub returns : goal.returns
returns g c = record { writes = flushed_writes c.args.bytes.now _ _ _ _ c.in_ok-write_bytes.ensures c.flush.ensures.bytes }
