use Rattle.test_select_features.proofs.OnFacts.{led_as_chosen, led_when_on}
use Rattle.test_select_features.proofs.laws.initials_lead_to_what_is_on.Goals as goal

pub returns-clause-same : goal.returns-clause-same
returns-clause-same c = λ w choice table g f kept of_record known. led_as_chosen w kept g of_record choice known table f

pub returns-clause-on : goal.returns-clause-on
returns-clause-on c = λ w choice table g f kept of_record known. led_when_on w kept g of_record choice known table f c.edges_lead_to_what_is_on.ensures.seam
