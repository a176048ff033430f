use Rattle.nextest_filter_syntax.proofs.OnceFacts as facts
use Rattle.nextest_filter_syntax.proofs.laws.leaves_read_once.Goals as goal

pub returns : goal.returns
returns c = facts.leaves_read_once
