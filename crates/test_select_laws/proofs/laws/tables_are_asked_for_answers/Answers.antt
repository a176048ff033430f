use Rattle.test_select_laws.proofs.TableFacts.{rules_alike, selects_there}
use Rattle.test_select_laws.proofs.laws.tables_are_asked_for_answers.Goals as goal

pub returns : goal.returns
returns c = record { rules = λ w choice table known alike. rules_alike table known alike w choice; selections = selects_there }
