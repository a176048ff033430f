-- How far a search by halving has come.
use Rattle.std.specs.Prelude.{◌≡◌, ℕ, ◌+◌, ◌<◌, ◌≤◌, ◌^◌, List, length, slice_index_or}
use Rattle.workspace_record.specs.Features.{FeatureValue}

-- the feature stands nowhere but between the two places
abbrev pub IsBetween : List FeatureValue → FeatureValue → ℕ → ℕ → Type 0
IsBetween on f low high = (k : ℕ) → k < length on → slice_index_or on k f ≡ f → (low ≤ k) × (k < high)

-- so many looks more suffice for so many places
abbrev pub LooksLeft : ℕ → ℕ → ℕ → Type 0
LooksLeft size most looks = (m : ℕ) × (looks + m ≤ most) × (size < 2 ^ m)
