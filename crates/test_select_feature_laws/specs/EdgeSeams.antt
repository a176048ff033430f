-- How the edges of a feature graph, with a verdict on lines, close the same sets as what the rows demand, and as the rules of
-- its record.
use Rattle.std.specs.Prelude.{ℕ, ◌≡◌, ◌↔◌, Bool, true, [], All, IsTrue}
use Rattle.numbered_graph.specs.declared.direction.Direction.TheVariants.{Forward}
use Rattle.numbered_offers.specs.declared.offer.Offer.{Offer}
use Rattle.numbered_offers.specs.Least.{IsClosed as AreEdgesClosed}
use Rattle.workspace_record.specs.Records.{Workspace}
use Rattle.workspace_record.specs.Choices.{Choice}
use Rattle.workspace_record.specs.Features.{FeatureValue}
use Rattle.workspace_record.specs.declared.choice.PlatformTable.{PlatformTable}
use Rattle.feature_account_rules.specs.Closed.{FeatureSet, IsOn}
use Rattle.feature_account_rules.specs.RuleList.{rule_list}
use Rattle.guppy_feature_demands.specs.Demands.{demands_of, kept_demands}
use Rattle.guppy_feature_demands.specs.Nodes.{nodes_of}
use Rattle.guppy_feature_nodes.specs.Graphs.{FeatureGraphValue, IsFeatureGraph, feature_at}
use Rattle.guppy_feature_nodes.specs.Offering.{offers_of}
use Rattle.guppy_feature_graph.specs.Links.{link_of}
use Rattle.test_select_feature_laws.specs.Demands.{AreDemandsClosed}
use Rattle.test_select_feature_laws.specs.RecordGraphs.{HasDistinctFeatures, IsGraphOf}
use Rattle.test_select_feature_laws.specs.Rules.{AreRulesClosed, HasChosen, standing_rules}
use Rattle.test_select_feature_laws.specs.Verdicts.{HasCountingLine}

-- a set of nodes is closed under the edges that lead always and the offers behind which a line counts exactly where it is closed
-- under what the rows demand
abbrev pub EdgesCloseAsDemandsDo : Type 0
EdgesCloseAsDemandsDo =
    (table : PlatformTable) (g : FeatureGraphValue) (accepts : Offer → Bool) (s : ℕ → Bool)
    → IsFeatureGraph g
    → All HasDistinctFeatures g.rows.packages
    → ((o : Offer) → IsTrue (accepts o) ↔ HasCountingLine table (link_of g o))
    → AreEdgesClosed Forward (offers_of Forward g) [] accepts (λ v. s v ≡ true) ↔ AreDemandsClosed table g (kept_demands (nodes_of g.rows.packages) (demands_of g.rows.packages g.rows.links)) (nodes_of g.rows.packages) (λ v. s v ≡ true)

-- a set of features is closed under the edges that lead always and the offers behind which a line counts exactly where it is
-- closed under the rules that hold under each choice
abbrev pub EdgesCloseAsRulesDo : Type 0
EdgesCloseAsRulesDo =
    (w : Workspace) (table : PlatformTable) (g : FeatureGraphValue) (accepts : Offer → Bool) (s : FeatureSet)
    → IsGraphOf w g
    → ((o : Offer) → IsTrue (accepts o) ↔ HasCountingLine table (link_of g o))
    → AreEdgesClosed Forward (offers_of Forward g) [] accepts (λ v. s (feature_at g v) ≡ true) ↔ AreRulesClosed (standing_rules w table) s

-- what is on under a choice is what lies in each set that has what the choice switches on by itself and is closed under the
-- edges that lead always and the offers behind which a line counts
abbrev pub EdgesLeadToWhatIsOn : Type 0
EdgesLeadToWhatIsOn =
    (w : Workspace) (choice : Choice) (table : PlatformTable) (g : FeatureGraphValue) (accepts : Offer → Bool) (f : FeatureValue)
    → IsGraphOf w g
    → ((o : Offer) → IsTrue (accepts o) ↔ HasCountingLine table (link_of g o))
    → IsOn (rule_list w choice table) f ↔ ((s : FeatureSet) → HasChosen w choice s → AreEdgesClosed Forward (offers_of Forward g) [] accepts (λ v. s (feature_at g v) ≡ true) → s f ≡ true)
