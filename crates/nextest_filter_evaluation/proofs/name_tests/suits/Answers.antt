use Rattle.nextest_filter_evaluation.proofs.NameFacts.{suits_as}
use Rattle.nextest_filter_evaluation.proofs.name_tests.suits.Goals as goal

pub returns-clause-matches : goal.returns-clause-matches
returns-clause-matches c = suits_as _ _ _ c.is_match.ensures.matches
