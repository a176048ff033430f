use Rattle.test_select_feature_laws.specs.DemandSeams.{WhatIsChosenLeadsOn}
use Rattle.test_select_feature_laws.proofs.ChosenFacts.{closed_under_all, closed_under_standing, has_chosen}
use Rattle.test_select_feature_laws.proofs.demand_laws.what_is_chosen_leads_on.Goals as goal

both_ways : WhatIsChosenLeadsOn
both_ways w choice table f apart = (
  λ on s has closed. on s (closed_under_all w apart choice table s has closed),
  λ each s closed. each s (has_chosen w apart choice table s closed) (closed_under_standing w apart choice table s closed),
)

pub returns : goal.returns
returns c = record { seam = both_ways }
