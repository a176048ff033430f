use Rattle.nextest_filter_tokens.proofs.BlankFacts.{blanks_read_once}
use Rattle.nextest_filter_tokens.proofs.laws.blanks_read_once.Goals as goal

pub returns : goal.returns
returns c = blanks_read_once
