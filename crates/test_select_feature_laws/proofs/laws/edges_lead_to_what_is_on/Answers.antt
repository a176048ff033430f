use Rattle.test_select_feature_laws.specs.Laws.{KeptEdgesLeadToWhatIsOn, KeptRecordsHaveGraphs}
use Rattle.test_select_feature_laws.specs.EdgeSeams.{EdgesLeadToWhatIsOn}
use Rattle.test_select_feature_laws.proofs.laws.edges_lead_to_what_is_on.Goals as goal

by_graphs : KeptRecordsHaveGraphs → EdgesLeadToWhatIsOn → KeptEdgesLeadToWhatIsOn
by_graphs graphs edges w choice table g accepts f kept graph follows =
    edges w choice table g accepts f (graphs w g kept graph) follows

pub returns : goal.returns
returns c = record { seam = by_graphs c.kept_records_have_graphs.ensures.graphs c.edges_lead_to_what_is_on.ensures.seam }
