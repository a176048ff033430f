-- The first of several filters that holds.
use Rattle.std.specs.Prelude.{ℕ, ◌<◌, List, length, Contains, Option, Some, None}
use Rattle.nextest_filter_evaluation.specs.Questions.{IsFirst}

-- the place of the first that holds; none where none does
abbrev pub FindsFirst : {F : Type 0} → (F → Type 0) → List F → Option ℕ → Type 0
FindsFirst holds fs (Some place) = IsFirst holds fs place × (place < length fs)
FindsFirst {F} holds fs None = (f : F) → Contains fs f → holds f → ⊥
