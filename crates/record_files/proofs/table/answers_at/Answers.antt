use Rattle.record_files.proofs.Specs.{none_ascend}
use Rattle.record_files.proofs.table.answers_at.Goals as goal

pub returns-in_default-clause-ascending : goal.returns-in_default-clause-ascending
returns-in_default-clause-ascending c = rw c.new.ensures.empty none_ascend
