-- What is on is what the choice switches on by itself leads to by the rules that hold under each choice.
use Rattle.std.proofs.Common.{◌≡◌, ◌≢◌, true, AllPairs, map, refl, subst, ⊎_elim}
use Rattle.std.proofs.lemmas.Bool.{and_parts, cases_Bool, or_cases}
use Rattle.list_facts.proofs.Membership.{Contains-append_left, Contains-append_right, Contains-append_cases, Contains-map, Contains-map_cases}
use Rattle.workspace_record.specs.Records.{Workspace}
use Rattle.workspace_record.specs.Choices.{Choice}
use Rattle.workspace_record.specs.Features.{feature_eq, features_decide}
use Rattle.workspace_record.specs.declared.choice.PlatformTable.{PlatformTable}
use Rattle.feature_account_rules.specs.Closed.{FeatureSet, IsClosed, has_premises}
use Rattle.feature_account_rules.specs.RuleList.{chosen_features, given, rule_list}
use Rattle.feature_account_rules.specs.declared.rule.Premises.{Premises}
use Rattle.feature_account_rules.specs.declared.rule.Premises.TheVariants.{None, One, Two}
use Rattle.feature_account_rules.specs.declared.rule.Rule.{Rule}
use Rattle.test_select_feature_laws.specs.Rules.{AreRulesClosed, HasChosen, is_among, standing_rules}
use Rattle.test_select_feature_laws.proofs.StandingFacts.{first_rules, from_first, to_first}

-- a set that has the premises has a conclusion that is one of them
among_held : (s : FeatureSet) (r : Rule) (p : Premises) → is_among r p ≡ true → has_premises s p ≡ true → s r.conclusion ≡ true
among_held s r None among held = absurd cc
among_held s r (One f) among held = subst (λ g. s g ≡ true) ((features_decide f r.conclusion).0 among) held
among_held s r (Two f g) among held =
    let both = and_parts (s f) (s g) held in
    ⊎_elim (λ e. subst (λ h. s h ≡ true) ((features_decide f r.conclusion).0 e) both.0) (λ e. subst (λ h. s h ≡ true) ((features_decide g r.conclusion).0 e) both.1) (or_cases (feature_eq f r.conclusion) (feature_eq g r.conclusion) among)

module _ (w : Workspace) (apart : AllPairs (λ a b. a.id ≢ b.id) w.packages) (choice : Choice) (table : PlatformTable) (s : FeatureSet) where
  -- a set that has what is chosen and is closed under the rules that hold under each choice is closed under all rules
  pub closed_under_all : HasChosen w choice s → AreRulesClosed (standing_rules w table) s → IsClosed (rule_list w choice table) s
  closed_under_all has closed r listed held =
      ⊎_elim
      (λ g. let f = Contains-map_cases given (chosen_features w choice) r g in subst (λ (x : Rule). s x.conclusion ≡ true) f.2 (has f.0 f.1))
      (λ a. ⊎_elim (λ among. among_held s r r.premises among held) (λ apart_from. closed r (from_first w apart table r a) apart_from held) (cases_Bool (is_among r r.premises)))
      (Contains-append_cases (map given (chosen_features w choice)) (first_rules w apart table) r listed)

  -- a set that is closed under all rules has what is chosen
  pub has_chosen : IsClosed (rule_list w choice table) s → HasChosen w choice s
  has_chosen closed f h =
      closed (given f) (Contains-append_left (map given (chosen_features w choice)) (first_rules w apart table) (given f) (Contains-map given (chosen_features w choice) f h)) refl

  -- and is closed under those that hold under each choice
  pub closed_under_standing : IsClosed (rule_list w choice table) s → AreRulesClosed (standing_rules w table) s
  closed_under_standing closed r h apart_from held =
      closed r (Contains-append_right (map given (chosen_features w choice)) (first_rules w apart table) r (to_first w apart table r h)) held
