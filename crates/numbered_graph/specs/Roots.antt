-- Links inside a set of nodes, and the nodes at which they begin.
use Rattle.std.specs.Prelude.{◌≡◌, ◌≢◌, ℕ, ◌<◌, Bool, true, ◌&&◌, List, length, slice_index}
use Rattle.numbered_graph.specs.declared.link.Link.{Link}
use Rattle.numbered_graph.specs.declared.direction.Direction.{Direction}
use Rattle.numbered_graph.specs.Links.{link_at, near_at, far_at}
use Rattle.numbered_graph.specs.Paths.{any_link, AreMutual}
use Rattle.numbered_graph.specs.Sets.{has}

-- both ends of the link are in the set (from guppy's `root_ids`)
abbrev pub is_inside : List Link → List Bool → ℕ → Bool
is_inside links set j = has set (link_at links j).from && has set (link_at links j).to

-- each link inside the set that leads to the node's component, as seen in the direction, begins in it (from guppy's `root_ids`)
abbrev pub IsRoot : Direction → List Link → List Bool → ℕ → Type 0
IsRoot d links set v =
    (j : ℕ) → j < length links → is_inside links set j ≡ true → AreMutual links any_link (far_at d links j) v → AreMutual links any_link (near_at d links j) v

-- the link is inside the set, and leads from one rank to another
pub record IsEntry (d : Direction) (links : List Link) (ranks : List ℕ) (set : List Bool) (j : ℕ) : Type 0 where
  pub inside : is_inside links set j ≡ true
  pub crosses : slice_index ranks (near_at d links j) ≢ slice_index ranks (far_at d links j)

-- some link before `upto` leads to a node of this rank from another rank
pub record IsEntered (d : Direction) (links : List Link) (ranks : List ℕ) (set : List Bool) (upto : ℕ) (rank : ℕ) : Type 0 where
  pub link : ℕ
  pub before : link < upto
  pub entry : IsEntry d links ranks set link
  pub at : slice_index ranks (far_at d links link) ≡ rank

-- the flags of the ranks that links before `upto` lead to from other ranks
pub record AreEntered (d : Direction) (links : List Link) (ranks : List ℕ) (set : List Bool) (upto : ℕ) (entered : List Bool) : Type 0 where
  pub found : (r : ℕ) → has entered r ≡ true → IsEntered d links ranks set upto r
  pub all : (j : ℕ) → j < upto → IsEntry d links ranks set j → has entered (slice_index ranks (far_at d links j)) ≡ true
