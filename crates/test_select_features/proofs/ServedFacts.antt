-- What a question is like whose record is served.
use Rattle.std.proofs.Common.{◌≡◌, ◌↔◌, true, None, List, Result, Ok, Err, IfOk, All, Contains, subst}
use Rattle.std.specs.List.Sorted.{IsStrictlySortedBy}
use Rattle.workspace_record.specs.Records.{Workspace}
use Rattle.workspace_record.specs.Choices.{Choice}
use Rattle.workspace_record.specs.Features.{FeatureValue, feature_cmp}
use Rattle.workspace_record.specs.declared.choice.PlatformTable.{PlatformTable}
use Rattle.feature_account_rules.specs.Closed.{IsOn}
use Rattle.feature_account_rules.specs.RuleList.{rule_list}
use Rattle.test_select_features.specs.Known.{is_known_extra}
use Rattle.test_select_feature_laws.proofs.KeptFacts.{each_passes}
use Rattle.test_select_features.specs.Switching.{AreOn, IsServed, unknown_extra}

-- where no extra is unknown, each names a feature that a workspace package has
pub extras_known : (w : Workspace) (choice : Choice) → unknown_extra w choice ≡ None → All (λ f. is_known_extra w f ≡ true) choice.extras
extras_known w choice = each_passes (is_known_extra w) choice.extras

-- features are on, ascending, in a record that is served, where they are so in an equal one
pub are_on : {E : Type 0} (w v : Workspace) (choice : Choice) (table : PlatformTable) (r : Result (List FeatureValue) E) → v ≡ w → IsServed w choice → IfOk r (λ on. (f : FeatureValue) → Contains on f ↔ IsOn (rule_list v choice table) f) → IfOk r (λ on. IsStrictlySortedBy feature_cmp on) → IfOk r (AreOn w choice table)
are_on w v choice table (Ok on) same served members ascending = record {
  served = served;
  members = subst (λ (u : Workspace). (f : FeatureValue) → Contains on f ↔ IsOn (rule_list u choice table) f) same members;
  ascending = ascending;
}
are_on w v choice table (Err e) same served members ascending = ascending
