-- The features that are asked for.
use Rattle.std.specs.Prelude.{◌≡◌, ℕ, zero, suc, Bool, List, nat_eq, refl}
use Rattle.std.specs.Ordering.{on}
use Rattle.std.specs.Cmp.{unsigned_Decides}
use Rattle.std.specs.Cmp.Lexicographic.{pointwise}
use Rattle.workspace_record.specs.Equality.{DecidesEquality, pair_eq, lists_decide, pairs_decide, decide_by}
use Rattle.workspace_record.specs.Features.{FeatureValue, feature_eq, features_decide}
use Rattle.workspace_record.specs.declared.kinds.Standard.{Standard}
use Rattle.workspace_record.specs.declared.kinds.Standard.TheVariants.{None, Default, All}

-- of a `FeatureChoice`
pub record Choice : Type 0 where
  pub standard : Standard
  pub extras : List FeatureValue

abbrev pub standard_index : Standard → ℕ
standard_index None = 0
standard_index Default = 1
standard_index All = 2

abbrev standard_at : ℕ → Standard
standard_at zero = None
standard_at (suc zero) = Default
standard_at (suc (suc n)) = All

standard_at-index : (s : Standard) → standard_at (standard_index s) ≡ s
standard_at-index None = refl
standard_at-index Default = refl
standard_at-index All = refl

abbrev pub choice_eq : Choice → Choice → Bool
choice_eq = on (λ c. (c.standard, c.extras)) (pair_eq (on standard_index nat_eq) (pointwise feature_eq))

pub choices_decide : DecidesEquality choice_eq
choices_decide =
    decide_by _ (λ p. record { standard = p.0; extras = p.1 }) (λ c. refl) (pairs_decide (decide_by standard_index standard_at standard_at-index unsigned_Decides) (lists_decide features_decide))
