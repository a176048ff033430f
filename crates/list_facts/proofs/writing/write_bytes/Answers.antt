use Rattle.list_facts.proofs.Written.{more_written}
use Rattle.list_facts.proofs.writing.write_bytes.Goals as goal

pub loop-rest-preserved : goal.loop-rest-preserved
loop-rest-preserved g c = more_written _ _ _ _ _ _ c.in_ok-count.count c.loop-rest.invariant c.in_ok-count.ensures.bytes c.split_at.ensures.back
