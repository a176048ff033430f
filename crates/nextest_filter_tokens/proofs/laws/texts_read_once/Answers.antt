use Rattle.nextest_filter_tokens.proofs.TextFacts as facts
use Rattle.nextest_filter_tokens.proofs.laws.texts_read_once.Goals as goal

pub returns : goal.returns
returns c = facts.texts_read_once
