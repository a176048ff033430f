-- Cycles: the components with two or more nodes, or a link from a node to itself.
use Rattle.std.specs.Prelude.{◌≡◌, ◌≢◌, ◌↔◌, ℕ, ◌+◌, ◌-◌, ◌<◌, ◌≤◌, Bool, true, nat_eq, List, ◌++◌, length, take, filter, slice_index, Contains, All, AllPairs}
use Rattle.std.specs.List.{flat_map, list_any}
use Rattle.numbered_graph.specs.declared.link.Link.{Link}
use Rattle.numbered_graph.specs.declared.direction.Direction.{Direction}
use Rattle.numbered_graph.specs.declared.direction.Direction.TheVariants.{Forward, Reverse}
use Rattle.numbered_graph.specs.Links.{link_at}
use Rattle.numbered_graph.specs.Paths.{any_link, Reaches, AreMutual, LeadsOn}
use Rattle.numbered_graph.specs.Sets.{has}

-- at least one link leads from the node round to itself (from guppy's `Cycles`)
pub record IsOnCycle (links : List Link) (v : ℕ) : Type 0 where
  pub link : ℕ
  pub within : link < length links
  pub there : Reaches links any_link v (link_at links link).from
  pub back : Reaches links any_link (link_at links link).to v

-- the nodes that are on cycles, each once, cut into components; none leads on to an earlier one (from guppy's `Cycles`)
pub record AreCycles (d : Direction) (links : List Link) (cycles : List (List ℕ)) : Type 0 where
  pub once : AllPairs (λ u v. u ≢ v) (flat_map (λ c. c) cycles)
  pub each : (v : ℕ) → Contains (flat_map (λ c. c) cycles) v ↔ IsOnCycle links v
  pub some : All (λ c. 0 < length c) cycles
  pub mutual_inside : All (λ c. (u v : ℕ) → Contains c u → Contains c v → AreMutual links any_link u v) cycles
  pub ahead : AllPairs (λ c e. (u v : ℕ) → Contains c u → Contains e v → ¬ LeadsOn d links any_link v u) cycles

-- the node is in the list
abbrev pub has_node : ℕ → List ℕ → Bool
has_node v nodes = list_any (nat_eq v) nodes

-- the cycles, joined, are the listing without the nodes that are in none of them (from guppy's `Cycles`)
abbrev pub AreInListingOrder : List ℕ → List (List ℕ) → Type 0
AreInListingOrder listing cycles = flat_map (λ c. c) cycles ≡ filter (λ v. has_node v (flat_map (λ c. c) cycles)) listing

-- a rank, counted down from the top in reverse
abbrev pub key_of : Direction → ℕ → ℕ → ℕ
key_of Forward top rank = rank
key_of Reverse top rank = top - rank

-- what stands between two nodes with one key has it too
abbrev pub AreKeysTogether : List ℕ → List ℕ → Type 0
AreKeysTogether keys nodes =
    (i j k : ℕ) → i < j → j < k → k < length nodes → slice_index keys (slice_index nodes i) ≡ slice_index keys (slice_index nodes k) → slice_index keys (slice_index nodes i) ≡ slice_index keys (slice_index nodes j)

-- from `start` on, the nodes with its key up to the first with another
pub record IsRun (keys nodes : List ℕ) (start : ℕ) (run : List ℕ) : Type 0 where
  pub some : 0 < length run
  pub within : start + length run ≤ length nodes
  pub whole : take start nodes ++ run ≡ take (start + length run) nodes
  pub level : All (λ v. slice_index keys v ≡ slice_index keys (slice_index nodes start)) run
  pub ends : start + length run < length nodes → slice_index keys (slice_index nodes (start + length run)) ≢ slice_index keys (slice_index nodes start)

-- lists of nodes with one key each, and no key in two of them
pub record AreRuns (keys : List ℕ) (runs : List (List ℕ)) : Type 0 where
  pub some : All (λ c. 0 < length c) runs
  pub level : All (λ c. (u v : ℕ) → Contains c u → Contains c v → slice_index keys u ≡ slice_index keys v) runs
  pub apart : AllPairs (λ c e. (u v : ℕ) → Contains c u → Contains e v → slice_index keys u ≢ slice_index keys v) runs

-- the link joins two nodes with this key
pub record IsLevelLink (links : List Link) (keys : List ℕ) (key j : ℕ) : Type 0 where
  pub from_key : slice_index keys (link_at links j).from ≡ key
  pub to_key : slice_index keys (link_at links j).to ≡ key

-- the flags of the keys that some link before `upto` joins
pub record AreLevels (links : List Link) (keys : List ℕ) (upto : ℕ) (flags : List Bool) : Type 0 where
  pub found : (key : ℕ) → has flags key ≡ true → (j : ℕ) × (j < upto) × IsLevelLink links keys key j
  pub all : (key j : ℕ) → j < upto → IsLevelLink links keys key j → has flags key ≡ true
