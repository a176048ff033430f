-- What is led to from what a choice's filter takes is on.
use Rattle.std.proofs.Common.{◌≡◌, ◌↔◌, ◌∙◌, true, None, List, All, Contains, IfOk, Result, Ok, Err, ap, subst}
use Rattle.workspace_record.specs.Records.{Workspace}
use Rattle.workspace_record.specs.Choices.{Choice}
use Rattle.workspace_record.specs.Features.{FeatureValue}
use Rattle.workspace_record.specs.declared.choice.PlatformTable.{PlatformTable}
use Rattle.feature_account_rules.specs.Closed.{IsOn}
use Rattle.feature_account_rules.specs.RuleList.{rule_list}
use Rattle.test_select_rules.specs.RecordRules.{fault_of}
use Rattle.guppy_package_table.specs.Tables.{IsTableOf, TableValue}
use Rattle.guppy_feature_nodes.specs.Graphs.{FeatureGraphValue, IsFeatureGraph}
use Rattle.numbered_offers.specs.declared.offer.Offer.{Offer}
use Rattle.guppy_feature_graph.specs.Links.{link_of}
use Rattle.test_select_feature_laws.specs.Laws.{IsBuiltOf, KeptEdgesLeadToWhatIsOn}
use Rattle.test_select_feature_laws.proofs.KeptFacts.{rows_kept}
use Rattle.test_select_feature_laws.specs.Verdicts.{some_counts}
use Rattle.test_select_feature_laws.proofs.Counting.{counting_iff}
use Rattle.test_select_features.specs.Known.{is_known_extra}
use Rattle.test_select_features.specs.InitialLaws.{IsLedToByChoice}
use Rattle.test_select_features.specs.Leading.{IsLedTo}
use Rattle.test_select_features.specs.Starts.{IsStart}
use Rattle.test_select_features.proofs.StartFacts.{chosen_started, starts_in}

module _ (w : Workspace) (kept : fault_of w ≡ None) (g : FeatureGraphValue) (of_record : IsBuiltOf w g) (choice : Choice) (known : All (λ f. is_known_extra w f ≡ true) choice.extras) (table : PlatformTable) (f : FeatureValue) where
  -- what the filter takes leads to the same as what the choice switches on by itself
  pub led_as_chosen : IsLedTo table g (IsStart g choice) f ↔ IsLedToByChoice w choice table g f
  led_as_chosen =
      let apart = (rows_kept w kept).ids_apart in (
        λ led accepts passes s begins closed. led accepts passes s (starts_in w apart g of_record choice accepts s begins closed) closed,
        λ led accepts passes s starts closed. led accepts passes s (λ c h. let (v, start, at) = chosen_started w apart g of_record choice known c h in subst (λ x. s x ≡ true) at (starts v start)) closed,
      )

  -- and that is what is on
  pub led_when_on : KeptEdgesLeadToWhatIsOn → IsLedTo table g (IsStart g choice) f ↔ IsOn (rule_list w choice table) f
  led_when_on law =
      let counts = λ (o : Offer). counting_iff table (link_of g o) in (
        λ led. (law w choice table g (λ o. some_counts table (link_of g o)) f kept of_record counts).1 (λ s begins closed. led_as_chosen.0 led (λ o. some_counts table (link_of g o)) counts s begins closed),
        λ on. led_as_chosen.1 (λ accepts passes s begins closed. (law w choice table g accepts f kept of_record passes).0 on s begins closed),
      )

module _ (w : Workspace) (kept : fault_of w ≡ None) (t : TableValue) (declared : IsTableOf w.packages w.links w.workspace t) where
  module _ (g : FeatureGraphValue) (rows : g.rows ≡ t) (built : IsFeatureGraph g) where
    built_of : IsBuiltOf w g
    built_of = record {
      packages = ap (λ (u : TableValue). u.packages) rows ∙ declared.rows;
      links = ap (λ (u : TableValue). u.links) rows ∙ declared.link_rows;
      workspace = ap (λ (u : TableValue). u.workspace) rows ∙ declared.workspace_row;
      built = built;
    }

    -- what it leads to is on, and nothing else
    pub led_iff_on : KeptEdgesLeadToWhatIsOn → (choice : Choice) → All (λ f. is_known_extra w f ≡ true) choice.extras → (table : PlatformTable) (f : FeatureValue) → IsLedTo table g (IsStart g choice) f ↔ IsOn (rule_list w choice table) f
    led_iff_on law choice known table f = led_when_on w kept g built_of choice known table f law

both_ways : {P Q R : Type 0} → P ↔ Q → Q ↔ R → P ↔ R
both_ways h k = (λ p. k.0 (h.0 p), λ r. h.1 (k.1 r))

-- what is listed is what was found
pub each_on : {E : Type 0} (r : Result (List FeatureValue) E) (found : List FeatureValue) (P Q : FeatureValue → Type 0) → IfOk r (λ on. (f : FeatureValue) → Contains on f ↔ Contains found f) → ((f : FeatureValue) → Contains found f ↔ P f) → ((f : FeatureValue) → P f ↔ Q f) → IfOk r (λ on. (f : FeatureValue) → Contains on f ↔ Q f)
each_on (Ok on) found P Q listed leads is_on = λ f. both_ways (listed f) (both_ways (leads f) (is_on f))
each_on (Err e) found P Q listed leads is_on = listed
