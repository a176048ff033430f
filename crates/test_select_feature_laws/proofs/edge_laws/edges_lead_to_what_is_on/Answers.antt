use Rattle.test_select_feature_laws.specs.DemandSeams.{WhatIsChosenLeadsOn}
use Rattle.test_select_feature_laws.specs.EdgeSeams.{EdgesCloseAsRulesDo, EdgesLeadToWhatIsOn}
use Rattle.test_select_feature_laws.proofs.edge_laws.edges_lead_to_what_is_on.Goals as goal

by_rules : EdgesCloseAsRulesDo → WhatIsChosenLeadsOn → EdgesLeadToWhatIsOn
by_rules edges chosen w choice table g accepts f graph follows =
    let on = chosen w choice table f graph.kept.ids_apart in (
      λ is_on s has closed. on.0 is_on s has ((edges w table g accepts s graph follows).0 closed),
      λ each. on.1 (λ s has closed. each s has ((edges w table g accepts s graph follows).1 closed)),
    )

pub returns : goal.returns
returns c = record { seam = by_rules c.edges_close_as_rules_do.ensures.seam c.what_is_chosen_leads_on.ensures.seam }
