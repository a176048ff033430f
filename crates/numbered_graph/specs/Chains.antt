-- The links of each node in ascending order. The number of links stands for none.
use Rattle.std.specs.Prelude.{◌≡◌, ◌≢◌, ℕ, suc, ◌<◌, ◌≤◌, List, length, slice_index}
use Rattle.numbered_graph.specs.declared.link.Link.{Link}
use Rattle.numbered_graph.specs.declared.direction.Direction.{Direction}
use Rattle.numbered_graph.specs.declared.chains.Chains.{Chains}
use Rattle.numbered_graph.specs.Links.{near_at}

-- the first link from the place `at` on that is followed from the node
pub record IsNextLink (d : Direction) (links : List Link) (node at next : ℕ) : Type 0 where
  pub from_here : at ≤ next
  pub within : next ≤ length links
  pub follows : next < length links → near_at d links next ≡ node
  pub none_between : (j : ℕ) → at ≤ j → j < next → near_at d links j ≢ node

-- the links from the place `at` on are chained
pub record AreChained (d : Direction) (nodes : ℕ) (links : List Link) (at : ℕ) (first next : List ℕ) : Type 0 where
  pub first_sized : length first ≡ nodes
  pub next_sized : length next ≡ length links
  pub first_is : (v : ℕ) → v < nodes → IsNextLink d links v at (slice_index first v)
  pub next_is : (j : ℕ) → at ≤ j → j < length links → IsNextLink d links (near_at d links j) (suc j) (slice_index next j)

-- all links are chained
abbrev pub AreChains : Direction → ℕ → List Link → Chains → Type 0
AreChains d nodes links c = AreChained d nodes links 0 c.first.items c.next.items
