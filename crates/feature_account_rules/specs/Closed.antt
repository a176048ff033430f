-- Sets of features that rules close, and what is on: what lies in all of them.
use Rattle.std.specs.Prelude.{◌≡◌, Bool, true, false, not, ◌&&◌, ◌||◌, List, Contains}
use Rattle.workspace_record.specs.Features.{FeatureValue, feature_eq}
use Rattle.feature_account_rules.specs.declared.rule.Premises.{Premises}
use Rattle.feature_account_rules.specs.declared.rule.Premises.TheVariants.{None, One, Two}
use Rattle.feature_account_rules.specs.declared.rule.Rule.{Rule}

-- a set of features is a test of features
abbrev pub FeatureSet : Type 0
FeatureSet = FeatureValue → Bool

-- the set has all of the premises
abbrev pub has_premises : FeatureSet → Premises → Bool
has_premises s None = true
has_premises s (One f) = s f
has_premises s (Two f g) = s f && s g

-- the feature is one of the premises
abbrev pub is_premise : Premises → FeatureSet
is_premise None f = false
is_premise (One g) f = feature_eq f g
is_premise (Two g h) f = feature_eq f g || feature_eq f h

-- the set has the premises of a rule, and not its conclusion
abbrev pub is_open : FeatureSet → Rule → Bool
is_open s rule = has_premises s rule.premises && not (s rule.conclusion)

-- whenever the set has the premises of a rule, it has the conclusion
abbrev pub IsClosed : List Rule → FeatureSet → Type 0
IsClosed rules s = (r : Rule) → Contains rules r → has_premises s r.premises ≡ true → s r.conclusion ≡ true

-- the feature is in every closed set; each set is a test of features, and what is on is the meet of all that are closed
abbrev pub IsOn : List Rule → FeatureValue → Type 0
IsOn rules f = (s : FeatureSet) → IsClosed rules s → s f ≡ true
