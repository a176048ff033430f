use Rattle.std.proofs.Common.{All, sym, subst}
use Rattle.guppy_feature_nodes.specs.Graphs.{feature_at}
use Rattle.test_select_feature_laws.specs.RecordGraphs.{HasDistinctFeatures}
use Rattle.test_select_feature_laws.specs.DemandSeams.{DemandsCloseAsRulesDo}
use Rattle.test_select_feature_laws.specs.EdgeSeams.{EdgesCloseAsDemandsDo, EdgesCloseAsRulesDo}
use Rattle.test_select_feature_laws.proofs.edge_laws.edges_close_as_rules_do.Goals as goal

by_demands : EdgesCloseAsDemandsDo → DemandsCloseAsRulesDo → EdgesCloseAsRulesDo
by_demands edges demands w table g accepts s graph follows =
    let distinct = subst (All HasDistinctFeatures) (sym graph.packages) graph.distinct in
    let along = edges table g accepts (λ v. s (feature_at g v)) graph.built distinct follows in
    let by_rules = demands w table g s graph in
    (λ closed. by_rules.0 (along.0 closed), λ closed. along.1 (by_rules.1 closed))

pub returns : goal.returns
returns c = record { seam = by_demands c.edges_close_as_demands_do.ensures.seam c.demands_close_as_rules_do.ensures.seam }
