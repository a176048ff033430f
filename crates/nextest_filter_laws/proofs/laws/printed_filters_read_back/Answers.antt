use Rattle.nextest_filter_laws.proofs.TreeBack as facts
use Rattle.nextest_filter_laws.proofs.laws.printed_filters_read_back.Goals as goal

pub returns : goal.returns
returns c = facts.printed_filters_read_back
