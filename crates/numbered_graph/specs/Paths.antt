-- Paths over numbered links, and what they reach. A test says which links count, by their numbers.
use Rattle.std.specs.Prelude.{◌≡◌, ℕ, ◌<◌, Bool, true, List, [], ◌∷◌, length, Contains}
use Rattle.numbered_graph.specs.declared.link.Link.{Link}
use Rattle.numbered_graph.specs.declared.direction.Direction.{Direction}
use Rattle.numbered_graph.specs.declared.direction.Direction.TheVariants.{Forward, Reverse}
use Rattle.numbered_graph.specs.Links.{link_at}

-- the test that every link passes
abbrev pub any_link : ℕ → Bool
any_link _ = true

-- the links with these numbers lead from a to b, one after the other, and each of them passes (from guppy's resolves)
abbrev pub IsPath : List Link → (ℕ → Bool) → ℕ → List ℕ → ℕ → Type 0
IsPath links passes a [] b = a ≡ b
IsPath links passes a (j ∷ js) b =
    (j < length links) × (passes j ≡ true) × ((link_at links j).from ≡ a) × IsPath links passes (link_at links j).to js b

-- some path leads from a to b, maybe an empty one (from guppy's resolves)
pub record Reaches (links : List Link) (passes : ℕ → Bool) (a b : ℕ) : Type 0 where
  pub path : List ℕ
  pub leads : IsPath links passes a path b

-- a and b reach each other: they are of one component (from guppy's resolves)
pub record AreMutual (links : List Link) (passes : ℕ → Bool) (a b : ℕ) : Type 0 where
  pub there : Reaches links passes a b
  pub back : Reaches links passes b a

-- in a direction, a path leads from a to b; in reverse it begins at b (from guppy's resolves)
abbrev pub LeadsOn : Direction → List Link → (ℕ → Bool) → ℕ → ℕ → Type 0
LeadsOn Forward links passes a b = Reaches links passes a b
LeadsOn Reverse links passes a b = Reaches links passes b a

-- a path leads to the node from a start, or in reverse from the node to a start (from guppy's resolves)
pub record IsReached (d : Direction) (links : List Link) (passes : ℕ → Bool) (starts : List ℕ) (v : ℕ) : Type 0 where
  pub start : ℕ
  pub among : Contains starts start
  pub leads : LeadsOn d links passes start v
