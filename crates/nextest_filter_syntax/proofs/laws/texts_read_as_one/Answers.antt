use Rattle.nextest_filter_syntax.proofs.GrammarFacts as facts
use Rattle.nextest_filter_syntax.proofs.laws.texts_read_as_one.Goals as goal

pub returns : goal.returns
returns c = facts.texts_read_as_one
