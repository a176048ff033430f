-- How what the rows of a feature graph demand closes the same sets as the rules of its record.
use Rattle.std.specs.Prelude.{◌≡◌, ◌≢◌, ◌↔◌, true, AllPairs}
use Rattle.workspace_record.specs.Records.{Workspace}
use Rattle.workspace_record.specs.Choices.{Choice}
use Rattle.workspace_record.specs.Features.{FeatureValue}
use Rattle.workspace_record.specs.declared.choice.PlatformTable.{PlatformTable}
use Rattle.feature_account_rules.specs.Closed.{FeatureSet, IsOn}
use Rattle.feature_account_rules.specs.RuleList.{rule_list}
use Rattle.guppy_feature_demands.specs.Demands.{demands_of, kept_demands}
use Rattle.guppy_feature_demands.specs.Nodes.{nodes_of}
use Rattle.guppy_feature_nodes.specs.Graphs.{FeatureGraphValue, feature_at}
use Rattle.test_select_feature_laws.specs.Demands.{AreDemandsClosed}
use Rattle.test_select_feature_laws.specs.RecordGraphs.{IsGraphOf}
use Rattle.test_select_feature_laws.specs.Rules.{AreRulesClosed, HasChosen, standing_rules}

-- a set of features is closed under what the rows demand exactly where it is closed under the rules that hold under each choice
abbrev pub DemandsCloseAsRulesDo : Type 0
DemandsCloseAsRulesDo =
    (w : Workspace) (table : PlatformTable) (g : FeatureGraphValue) (s : FeatureSet)
    → IsGraphOf w g
    → AreDemandsClosed table g (kept_demands (nodes_of g.rows.packages) (demands_of g.rows.packages g.rows.links)) (nodes_of g.rows.packages) (λ v. s (feature_at g v) ≡ true) ↔ AreRulesClosed (standing_rules w table) s

-- what is on under a choice is what lies in each set that has what the choice switches on by itself and is closed under the
-- rules that hold under each choice
abbrev pub WhatIsChosenLeadsOn : Type 0
WhatIsChosenLeadsOn =
    (w : Workspace) (choice : Choice) (table : PlatformTable) (f : FeatureValue)
    → AllPairs (λ a b. a.id ≢ b.id) w.packages
    → IsOn (rule_list w choice table) f ↔ ((s : FeatureSet) → HasChosen w choice s → AreRulesClosed (standing_rules w table) s → s f ≡ true)
