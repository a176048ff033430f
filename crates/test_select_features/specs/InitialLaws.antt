-- The law of where a resolve begins.
use Rattle.std.specs.Prelude.{◌≡◌, ◌↔◌, Bool, true, [], All, None}
use Rattle.numbered_graph.specs.declared.direction.Direction.TheVariants.{Forward}
use Rattle.numbered_offers.specs.declared.offer.Offer.{Offer}
use Rattle.numbered_offers.specs.Least.{IsClosed as AreEdgesClosed}
use Rattle.workspace_record.specs.Records.{Workspace}
use Rattle.workspace_record.specs.Choices.{Choice}
use Rattle.workspace_record.specs.Features.{FeatureValue}
use Rattle.workspace_record.specs.declared.choice.PlatformTable.{PlatformTable}
use Rattle.feature_account_rules.specs.Closed.{FeatureSet, IsOn}
use Rattle.feature_account_rules.specs.RuleList.{rule_list}
use Rattle.guppy_feature_nodes.specs.Graphs.{FeatureGraphValue, feature_at}
use Rattle.guppy_feature_nodes.specs.Offering.{offers_of}
use Rattle.test_select_feature_laws.specs.Rules.{HasChosen}
use Rattle.test_select_rules.specs.RecordRules.{fault_of}
use Rattle.test_select_feature_laws.specs.Laws.{IsBuiltOf}
use Rattle.test_select_features.specs.Known.{is_known_extra}
use Rattle.test_select_features.specs.Leading.{IsLedTo, PassesCounting}
use Rattle.test_select_features.specs.Starts.{IsStart}

-- the feature lies in each set that has what the choice switches on by itself, by the rules, and is closed under the edges
-- that lead always and the offers behind which a line counts
abbrev pub IsLedToByChoice : Workspace → Choice → PlatformTable → FeatureGraphValue → FeatureValue → Type 0
IsLedToByChoice w choice table g f =
    (accepts : Offer → Bool)
    → PassesCounting table g accepts
    → (s : FeatureSet)
    → HasChosen w choice s
    → AreEdgesClosed Forward (offers_of Forward g) [] accepts (λ v. s (feature_at g v) ≡ true)
    → s f ≡ true

-- of the feature graph of a record that keeps the rules, and a choice whose extras are known
abbrev pub OfKeptRecords : (Workspace → Choice → PlatformTable → FeatureGraphValue → FeatureValue → Type 0) → Type 0
OfKeptRecords P =
    (w : Workspace) (choice : Choice) (table : PlatformTable) (g : FeatureGraphValue) (f : FeatureValue)
    → fault_of w ≡ None
    → IsBuiltOf w g
    → All (λ x. is_known_extra w x ≡ true) choice.extras
    → P w choice table g f

-- the features of members that a choice's filter takes lead to the same least set as what the choice switches on by itself
abbrev pub InitialsLeadAsTheChoiceDoes : Type 0
InitialsLeadAsTheChoiceDoes = OfKeptRecords (λ w choice table g f. IsLedTo table g (IsStart g choice) f ↔ IsLedToByChoice w choice table g f)

-- which is what is on
abbrev pub InitialsLeadToWhatIsOn : Type 0
InitialsLeadToWhatIsOn = OfKeptRecords (λ w choice table g f. IsLedTo table g (IsStart g choice) f ↔ IsOn (rule_list w choice table) f)
