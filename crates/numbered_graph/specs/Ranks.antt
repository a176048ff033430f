-- Ranks of nodes by their components.
use Rattle.std.specs.Prelude.{◌≡◌, ℕ, ◌<◌, ◌≤◌, Bool, List, length, slice_index}
use Rattle.numbered_graph.specs.declared.link.Link.{Link}
use Rattle.numbered_graph.specs.Paths.{Reaches}

-- ranks rise along paths, and are equal only within a component
pub record AreRanks (links : List Link) (passes : ℕ → Bool) (nodes : ℕ) (ranks : List ℕ) : Type 0 where
  pub sized : length ranks ≡ nodes
  pub rise : (a b : ℕ) → a < nodes → b < nodes → Reaches links passes a b → slice_index ranks a ≤ slice_index ranks b
  pub same : (a b : ℕ) → a < nodes → b < nodes → slice_index ranks a ≡ slice_index ranks b → Reaches links passes a b
