use Rattle.nextest_filter_tokens.proofs.PatternFacts as facts
use Rattle.nextest_filter_tokens.proofs.laws.patterns_read_once.Goals as goal

pub returns : goal.returns
returns c = facts.patterns_read_once
