use Rattle.test_select.proofs.ChangeFacts.{paths_named, paths_unnamed}
use Rattle.test_select.proofs.changes.listed_paths.Goals as goal

pub returns-in-Some-clause-reads : goal.returns-in-Some-clause-reads
returns-in-Some-clause-reads g c = paths_named c.args.name c.in-Some.name _ c.in-Some.is c.bytes_in.ensures.reads

pub returns-in-None-clause-reads : goal.returns-in-None-clause-reads
returns-in-None-clause-reads g c = paths_unnamed c.args.name c.new.result.items c.in-None.is c.new.ensures.items
