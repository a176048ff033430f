-- When a set of features is closed under the rules of a record that hold under each choice.
use Rattle.std.specs.Prelude.{◌≡◌, Bool, true, false, ◌||◌, List, ◌++◌, Contains}
use Rattle.std.specs.List.{flat_map}
use Rattle.workspace_record.specs.Records.{Workspace}
use Rattle.workspace_record.specs.Choices.{Choice}
use Rattle.workspace_record.specs.Features.{FeatureValue, feature_eq}
use Rattle.workspace_record.specs.declared.choice.PlatformTable.{PlatformTable}
use Rattle.feature_account_rules.specs.Closed.{FeatureSet, has_premises}
use Rattle.feature_account_rules.specs.RuleList.{base_rules, chosen_features, entry_rules, link_rules}
use Rattle.feature_account_rules.specs.declared.rule.Premises.{Premises}
use Rattle.feature_account_rules.specs.declared.rule.Premises.TheVariants.{None, One, Two}
use Rattle.feature_account_rules.specs.declared.rule.Rule.{Rule}

-- the rules that hold under each choice
abbrev pub standing_rules : Workspace → PlatformTable → List Rule
standing_rules w table = flat_map base_rules w.packages ++ (flat_map (entry_rules w table) w.packages ++ flat_map (link_rules w table) w.links)

-- the conclusion is one of the premises
abbrev pub is_among : Rule → Premises → Bool
is_among rule None = false
is_among rule (One f) = feature_eq f rule.conclusion
is_among rule (Two f g) = feature_eq f rule.conclusion || feature_eq g rule.conclusion

-- whenever the set has the premises of a rule that concludes something else, it has the conclusion
abbrev pub AreRulesClosed : List Rule → FeatureSet → Type 0
AreRulesClosed rules s = (r : Rule) → Contains rules r → is_among r r.premises ≡ false → has_premises s r.premises ≡ true → s r.conclusion ≡ true

-- the set has what the choice switches on by itself
abbrev pub HasChosen : Workspace → Choice → FeatureSet → Type 0
HasChosen w choice s = (f : FeatureValue) → Contains (chosen_features w choice) f → s f ≡ true
