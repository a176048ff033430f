-- Listings of nodes: components together, links between components forward.
use Rattle.std.specs.Prelude.{◌≡◌, ◌≢◌, ◌↔◌, ℕ, zero, suc, ◌<◌, ◌≤◌, Bool, true, List, [], ◌∷◌, ◌++◌, length, slice_index, Contains, AllPairs}
use Rattle.numbered_graph.specs.declared.link.Link.{Link}
use Rattle.numbered_graph.specs.Paths.{any_link, Reaches, AreMutual}

abbrev pub numbers_below : ℕ → List ℕ
numbers_below zero = []
numbers_below (suc n) = numbers_below n ++ n ∷ []

-- no node leads to one before it, unless that one leads back (from guppy's topological orders)
abbrev pub IsForward : List Link → (ℕ → Bool) → List ℕ → Type 0
IsForward links passes xs = AllPairs (λ x y. Reaches links passes y x → Reaches links passes x y) xs

-- what stands between two nodes of a component belongs to it (from guppy's topological orders)
abbrev pub IsTogether : List Link → List ℕ → Type 0
IsTogether links xs =
    (i j k : ℕ) → i < j → j < k → k < length xs → AreMutual links any_link (slice_index xs i) (slice_index xs k) → AreMutual links any_link (slice_index xs i) (slice_index xs j)

-- each member once, components together, links between components forward; and over the firm links alone no node
-- leads to one before it, unless that one leads back: where they have no cycle but self-links, none leads back
-- (from guppy's topological orders)
pub record IsListing (links : List Link) (firm : ℕ → Bool) (members : ℕ → Bool) (xs : List ℕ) : Type 0 where
  pub once : AllPairs (λ x y. x ≢ y) xs
  pub each : (v : ℕ) → Contains xs v ↔ (members v ≡ true)
  pub together : IsTogether links xs
  pub forward : IsForward links any_link xs
  pub firm_forward : IsForward links firm xs

-- by ranks, and where those are equal by firm ranks
abbrev pub IsInOrder : List ℕ → List ℕ → List ℕ → Type 0
IsInOrder ranks firm_ranks xs =
    AllPairs (λ x y. (slice_index ranks x ≤ slice_index ranks y) × (slice_index ranks x ≡ slice_index ranks y → slice_index firm_ranks x ≤ slice_index firm_ranks y)) xs
