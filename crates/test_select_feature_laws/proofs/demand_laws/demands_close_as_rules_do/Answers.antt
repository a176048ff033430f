use Rattle.std.proofs.Common.{◌≡◌, ◌↔◌, true, List, subst, sym}
use Rattle.workspace_record.specs.Records.{Link, Package}
use Rattle.guppy_feature_demands.specs.Demands.{demands_of, kept_demands}
use Rattle.guppy_feature_demands.specs.Nodes.{nodes_of}
use Rattle.guppy_feature_nodes.specs.Graphs.{feature_at}
use Rattle.test_select_feature_laws.specs.Demands.{AreDemandsClosed}
use Rattle.test_select_feature_laws.specs.Rules.{AreRulesClosed, standing_rules}
use Rattle.test_select_feature_laws.specs.DemandSeams.{DemandsCloseAsRulesDo}
use Rattle.test_select_feature_laws.proofs.DemandsToRules.{rules_closed}
use Rattle.test_select_feature_laws.proofs.RulesToDemands.{demands_closed}
use Rattle.test_select_feature_laws.proofs.demand_laws.demands_close_as_rules_do.Goals as goal

both_ways : DemandsCloseAsRulesDo
both_ways w table g s graph =
    let over : List Package → List Link → Type 0 = λ packages links. AreDemandsClosed table g (kept_demands (nodes_of packages) (demands_of packages links)) (nodes_of packages) (λ v. s (feature_at g v) ≡ true) ↔ AreRulesClosed (standing_rules w table) s in
    subst (λ links. over g.rows.packages links) (sym graph.links) (subst (λ packages. over packages w.links) (sym graph.packages) (rules_closed w table g s graph, demands_closed w table g s graph))

pub returns : goal.returns
returns c = record { seam = both_ways }
