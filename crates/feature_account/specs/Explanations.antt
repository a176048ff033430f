-- Explanations of a feature: lists of rule numbers that lead up to it, each of which is used.
use Rattle.std.specs.Prelude.{◌≡◌, ℕ, suc, zero, Bool, true, false, List, [], ◌∷◌, Some, option_map, slice_get, ◌⊎◌}
use Rattle.std.specs.List.{list_any}
use Rattle.std.specs.Option.{option_map_or}
use Rattle.workspace_record.specs.Features.{FeatureValue}
use Rattle.feature_account.specs.Accounts.{IsFault, IsSound}
use Rattle.feature_account_rules.specs.Closed.{FeatureSet, is_premise}
use Rattle.feature_account_rules.specs.declared.rule.Rule.{Rule}
use Rattle.feature_account.specs.declared.verdict.Verdict.{Verdict}
use Rattle.feature_account.specs.declared.verdict.Verdict.TheVariants.{Accepted, NotGoal, Unused}

-- the last entry concludes the feature
abbrev pub EndsIn : List Rule → FeatureValue → List ℕ → Type 0
EndsIn rules goal [] = ⊥
EndsIn rules goal (n ∷ []) = option_map (λ r. r.conclusion) (slice_get rules n) ≡ Some goal
EndsIn rules goal (n ∷ m ∷ ns) = EndsIn rules goal (m ∷ ns)

-- the feature is a premise of one of the entries
abbrev pub needs : List Rule → List ℕ → FeatureSet
needs rules entries f = list_any (λ n. option_map_or (λ r. is_premise r.premises f) (slice_get rules n) false) entries

-- what the entry concludes is a premise of one of the later entries
abbrev pub is_used : List Rule → ℕ → List ℕ → Bool
is_used rules n later = option_map_or (λ r. needs rules later r.conclusion) (slice_get rules n) false

-- what each entry but the last concludes is a premise of a later one
abbrev pub EachIsUsed : List Rule → List ℕ → Type 0
EachIsUsed rules [] = Unit {0}
EachIsUsed rules (n ∷ []) = Unit {0}
EachIsUsed rules (n ∷ m ∷ ns) = (is_used rules n (m ∷ ns) ≡ true) × EachIsUsed rules (m ∷ ns)

-- the entry at the place is the first but the last whose conclusion is no premise of a later one
abbrev pub IsFirstUnused : List Rule → List ℕ → ℕ → Type 0
IsFirstUnused rules [] place = ⊥
IsFirstUnused rules (n ∷ []) place = ⊥
IsFirstUnused rules (n ∷ m ∷ ns) zero = is_used rules n (m ∷ ns) ≡ false
IsFirstUnused rules (n ∷ m ∷ ns) (suc place) = (is_used rules n (m ∷ ns) ≡ true) × IsFirstUnused rules (m ∷ ns) place

-- entries that may all stand; the last concludes the feature, and what each other one concludes is a premise of a later one
pub record IsExplanation (rules : List Rule) (goal : FeatureValue) (entries : List ℕ) : Type 0 where
  pub sound : IsSound rules entries
  pub reached : EndsIn rules goal entries
  pub used : EachIsUsed rules entries

-- what is to be said of an explanation: that it is one, or its first fault
abbrev pub IsExplanationVerdict : List Rule → FeatureValue → List ℕ → Verdict → Type 0
IsExplanationVerdict rules goal entries Accepted = IsExplanation rules goal entries
IsExplanationVerdict rules goal entries NotGoal = IsSound rules entries × ¬ EndsIn rules goal entries
IsExplanationVerdict rules goal entries (Unused place) = IsSound rules entries × EndsIn rules goal entries × IsFirstUnused rules entries place
IsExplanationVerdict rules goal entries fault = IsFault rules entries fault

-- the first list is made of the second by dropping entries
abbrev pub IsSublist : List ℕ → List ℕ → Type 0
IsSublist [] ns = Unit {0}
IsSublist (m ∷ ms) [] = ⊥
IsSublist (m ∷ ms) (n ∷ ns) = ((m ≡ n) × IsSublist ms ns) ⊎ IsSublist (m ∷ ms) ns
