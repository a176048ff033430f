-- The number of each node's cycle.
use Rattle.std.specs.Prelude.{◌≡◌, ℕ, ◌+◌, ◌<◌, List, drop, length, slice_index_or}
use Rattle.std.specs.List.{position_or_len}
use Rattle.numbered_graph.specs.declared.link.Link.{Link}
use Rattle.numbered_graph.specs.Cycles.{has_node}
use Rattle.numbered_graph.specs.Links.{link_at}
use Rattle.numbered_graph.specs.Paths.{Reaches, any_link}

-- at least one link leads from the one node to the other
pub record Walks (links : List Link) (a b : ℕ) : Type 0 where
  pub link : ℕ
  pub within : link < length links
  pub there : Reaches links any_link a (link_at links link).from
  pub on : Reaches links any_link (link_at links link).to b

-- at least one link leads from the one node to the other, and back
pub record AreCyclic (links : List Link) (a b : ℕ) : Type 0 where
  pub there : Walks links a b
  pub back : Walks links b a

-- for each node the number of the first list from `at` on that it is in, or how many lists there are
pub record AreNumbers (nodes : ℕ) (lists : List (List ℕ)) (at : ℕ) (numbers : List ℕ) : Type 0 where
  pub sized : length numbers ≡ nodes
  pub each : (v : ℕ) → v < nodes → slice_index_or numbers v 0 ≡ at + position_or_len (has_node v) (drop at lists)

-- what is seen of cycles with numbers: how many nodes there are, and the nodes of each cycle
pub record NumberedCyclesValue : Type 0 where
  pub nodes : ℕ
  pub cycles : List (List ℕ)
