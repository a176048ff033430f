-- The search for components: against the links, by knots of a path.
use Rattle.std.specs.Prelude.{◌≡◌, ◌≢◌, ℕ, suc, ◌+◌, ◌*◌, ◌-◌, ◌<◌, ◌≤◌, ◌⊎◌, ◌==◌, Bool, true, List, [], ◌∷◌, ◌++◌, length, slice_set, slice_index, slice_index_or, Contains, All, AllPairs, count_by}
use Rattle.std.specs.List.{sum_by}
use Rattle.numbered_graph.specs.declared.link.Link.{Link}
use Rattle.numbered_graph.specs.declared.direction.Direction.TheVariants.{Reverse}
use Rattle.numbered_graph.specs.declared.components.Search.{Search}
use Rattle.numbered_graph.specs.Links.{near_at, far_at}
use Rattle.numbered_graph.specs.Paths.{Reaches}

-- what a search knows, as lists: of each node the next link into it that is to be followed, one more than its place on
-- the path, and its rank; the path, the places where its knots start, the nodes that may have links left; how many knots are closed
pub record Lists : Type 0 where
  pub cursors : List ℕ
  pub places : List ℕ
  pub ranks : List ℕ
  pub path : List ℕ
  pub starts : List ℕ
  pub todo : List ℕ
  pub closed : ℕ

abbrev pub lists_of : Search → Lists
lists_of s = record {
  cursors = s.cursors.items;
  places = s.places.items;
  ranks = s.ranks.items;
  path = s.path.items;
  starts = s.starts.items;
  todo = s.todo.items;
  closed = s.closed;
}

-- how much is left to do
abbrev pub work_left : List Link → Lists → ℕ
work_left links s = 3 * sum_by (λ c. length links - c) s.cursors + (length s.todo + length s.starts)

-- how many nodes were not put on the path
abbrev pub unplaced : List ℕ → ℕ
unplaced places = count_by (λ p. p == 0) places

-- with a new node at the end of the path, as a knot of its own
abbrev pub opened : Lists → ℕ → Lists
opened s v = record s {
  places = slice_set s.places v (length s.path + 1);
  path = s.path ++ v ∷ [];
  starts = s.starts ++ length s.path ∷ [];
  todo = s.todo ++ v ∷ [];
}

-- what was put on the path before still was
abbrev pub KeepsPlaced : Lists → Lists → Type 0
KeepsPlaced s t = (v : ℕ) → 0 < slice_index s.places v → 0 < slice_index t.places v

-- some last starts are dropped, all of them past the place
pub record IsCut (place : ℕ) (starts left : List ℕ) : Type 0 where
  pub ends : List ℕ
  pub cut : starts ≡ left ++ ends
  pub past : All (λ s. place < s) ends

-- the starts past the place are dropped
pub record JoinsAt (place : ℕ) (starts left : List ℕ) : Type 0 where
  pub is_cut : IsCut place starts left
  pub up_to : All (λ s. s ≤ place) left

-- the nodes that stand on the path from `start` up to `end` have the rank, and the others have their old ones
pub record RanksFrom (start end rank : ℕ) (path old new : List ℕ) : Type 0 where
  pub sized : length new ≡ length old
  pub each : (v : ℕ) → ((slice_index new v ≡ rank) × ((i : ℕ) × (start ≤ i) × (i < end) × (slice_index path i ≡ v))) ⊎ ((slice_index new v ≡ slice_index old v) × ((i : ℕ) → start ≤ i → i < end → slice_index path i ≢ v))

-- the node stands at the place of the path, and its component is not known yet
pub record IsOpen (places ranks : List ℕ) (v place : ℕ) : Type 0 where
  pub placed : slice_index places v ≡ suc place
  pub unranked : slice_index ranks v ≡ 0

-- the place i is in no earlier knot than the place k
abbrev pub IsNoEarlier : List ℕ → ℕ → ℕ → Type 0
IsNoEarlier starts i k = All (λ s. s ≤ k → s ≤ i) starts

-- the node has a rank, or is open in no earlier knot than the place
abbrev pub IsSeen : List ℕ → List ℕ → List ℕ → ℕ → ℕ → Type 0
IsSeen places ranks starts v place = (0 < slice_index ranks v) ⊎ ((k : ℕ) × IsOpen places ranks v k × IsNoEarlier starts k place)

-- the node is open, in the last knot of the path
pub record IsInLastKnot (s : Lists) (v : ℕ) : Type 0 where
  pub place : ℕ
  pub is_open : IsOpen s.places s.ranks v place
  pub last : All (λ k. k ≤ place) s.starts

-- after the link was met, where it comes from is seen, if it passes
pub record Meets (links : List Link) (passes : ℕ → Bool) (j : ℕ) (s t : Lists) : Type 0 where
  pub cursors : t.cursors ≡ s.cursors
  pub starts : length t.starts ≤ length s.starts + 1
  pub todo : length t.todo ≤ length s.todo + 1
  pub still_open : (v i : ℕ) → IsOpen s.places s.ranks v i → IsOpen t.places t.ranks v i
  pub seen : (i : ℕ) → passes j ≡ true → IsOpen t.places t.ranks (near_at Reverse links j) i → IsSeen t.places t.ranks t.starts (far_at Reverse links j) i

pub record AreSized (nodes : ℕ) (cursors places ranks : List ℕ) : Type 0 where
  pub cursors_sized : length cursors ≡ nodes
  pub places_sized : length places ≡ nodes
  pub ranks_sized : length ranks ≡ nodes

-- a cursor is at a link into its node, and past no link into a new node
pub record HasCursors (links : List Link) (nodes : ℕ) (cursors places : List ℕ) : Type 0 where
  pub follows : (v : ℕ) → v < nodes → slice_index cursors v < length links → near_at Reverse links (slice_index cursors v) ≡ v
  pub unmet : (j : ℕ) → j < length links → slice_index places (near_at Reverse links j) ≡ 0 → slice_index cursors (near_at Reverse links j) ≤ j

-- the path is the list of the open nodes
pub record HasPath (nodes : ℕ) (places ranks path : List ℕ) : Type 0 where
  pub below : All (λ v. v < nodes) path
  pub open_at : (i : ℕ) → i < length path → IsOpen places ranks (slice_index path i) i
  pub found : (v i : ℕ) → IsOpen places ranks v i → (i < length path) × (slice_index path i ≡ v)
  pub ranked_placed : (v : ℕ) → 0 < slice_index ranks v → 0 < slice_index places v

-- knots start at rising places of the path, so that none is empty, the first at its beginning
pub record HasStarts (path starts : List ℕ) : Type 0 where
  pub rising : AllPairs (λ a b. a < b) starts
  pub within : All (λ s. s < length path) starts
  pub first : slice_index_or starts 0 (length path) ≡ 0

-- the nodes of a knot lead to each other and to the nodes of the earlier knots
abbrev pub AreKnotted : List Link → (ℕ → Bool) → List ℕ → List ℕ → Type 0
AreKnotted links passes path starts =
    (i k : ℕ) → i < length path → k < length path → IsNoEarlier starts i k → Reaches links passes (slice_index path i) (slice_index path k)

-- where a link into an open node was followed, it comes from a ranked node or from no earlier knot
abbrev pub AreFollowedBack : List Link → (ℕ → Bool) → List ℕ → List ℕ → List ℕ → List ℕ → Type 0
AreFollowedBack links passes cursors places ranks starts =
    (j i : ℕ) → j < length links → passes j ≡ true → IsOpen places ranks (near_at Reverse links j) i → j < slice_index cursors (near_at Reverse links j) → IsSeen places ranks starts (far_at Reverse links j) i

-- what leads to a ranked node has a rank, and no higher one; nodes of one rank lead to each other
pub record AreRanked (links : List Link) (passes : ℕ → Bool) (ranks : List ℕ) (closed : ℕ) : Type 0 where
  pub back : (j : ℕ) → j < length links → passes j ≡ true → 0 < slice_index ranks (near_at Reverse links j) → (0 < slice_index ranks (far_at Reverse links j)) × (slice_index ranks (far_at Reverse links j) ≤ slice_index ranks (near_at Reverse links j))
  pub same : (a b : ℕ) → 0 < slice_index ranks a → slice_index ranks a ≡ slice_index ranks b → Reaches links passes a b
  pub most : (v : ℕ) → slice_index ranks v ≤ closed

-- the open nodes that may have links left, in the order of the path
pub record HasTodo (links : List Link) (cursors places ranks todo : List ℕ) : Type 0 where
  pub opened : All (λ v. (i : ℕ) × IsOpen places ranks v i) todo
  pub rising : AllPairs (λ u v. slice_index places u ≤ slice_index places v) todo
  pub all : (v i : ℕ) → IsOpen places ranks v i → slice_index cursors v < length links → Contains todo v

-- no more knots are closed than nodes have left the path
abbrev pub AreCounted : ℕ → Lists → Type 0
AreCounted nodes s = s.closed + length s.path + unplaced s.places ≤ nodes

pub record Searches (links : List Link) (passes : ℕ → Bool) (nodes : ℕ) (s : Lists) : Type 0 where
  pub sized : AreSized nodes s.cursors s.places s.ranks
  pub cursors : HasCursors links nodes s.cursors s.places
  pub path : HasPath nodes s.places s.ranks s.path
  pub starts : HasStarts s.path s.starts
  pub knotted : AreKnotted links passes s.path s.starts
  pub followed : AreFollowedBack links passes s.cursors s.places s.ranks s.starts
  pub ranked : AreRanked links passes s.ranks s.closed
  pub todo : HasTodo links s.cursors s.places s.ranks s.todo
  pub counted : AreCounted nodes s
