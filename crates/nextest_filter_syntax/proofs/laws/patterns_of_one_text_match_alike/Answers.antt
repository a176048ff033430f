use Rattle.nextest_filter_syntax.proofs.PatternFacts.{patterns_alike}
use Rattle.nextest_filter_syntax.proofs.laws.patterns_of_one_text_match_alike.Goals as goal

pub returns : goal.returns
returns c = record { alike = patterns_alike }
