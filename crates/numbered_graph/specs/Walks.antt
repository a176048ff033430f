-- Walks that ask of each link whether it is accepted.
use Rattle.std.specs.Prelude.{◌≡◌, ◌≢◌, ◌↔◌, ℕ, ◌-◌, ◌<◌, ◌≤◌, Bool, true, ◌&&◌, ◌==◌, List, ◌++◌, map, length, slice_index, Contains, All, AllPairs, Option, count_by}
use Rattle.std.specs.List.{list_any}
use Rattle.std.specs.Option.{option_to_list}
use Rattle.numbered_graph.specs.declared.link.Link.{Link}
use Rattle.numbered_graph.specs.declared.direction.Direction.{Direction}
use Rattle.numbered_graph.specs.Links.{near_at, far_at}
use Rattle.numbered_graph.specs.Graphs.{GraphValue}
use Rattle.numbered_graph.specs.Paths.{IsReached}
use Rattle.numbered_graph.specs.Sets.{has}

-- links that were shown, by their numbers, each with the answer, in order
abbrev pub Shown : Type 0
Shown = List (ℕ × Bool)

abbrev pub shown_links : Shown → List ℕ
shown_links shown = map (λ s. s.0) shown

-- the link was shown and accepted (from guppy's resolves with a resolver)
abbrev pub is_accepted : Shown → ℕ → Bool
is_accepted shown j = list_any (λ s. (s.0 == j) && s.1) shown

-- accepted links lead from a start to the node, in the direction (from guppy's resolves with a resolver)
abbrev pub IsIncluded : Direction → List Link → List ℕ → Shown → ℕ → Type 0
IsIncluded d links starts shown v = IsReached d links (is_accepted shown) starts v

-- each link that leaves an included node was shown exactly once, and no other (from guppy's resolves with a resolver)
pub record IsShowing (d : Direction) (links : List Link) (starts : List ℕ) (shown : Shown) : Type 0 where
  pub once : AllPairs (λ i j. i ≢ j) (shown_links shown)
  pub each : (j : ℕ) → Contains (shown_links shown) j ↔ ((j < length links) × IsIncluded d links starts shown (near_at d links j))

-- the link may be shown next: it leaves an included node, and was not shown (from guppy's resolves with a resolver)
pub record IsDue (d : Direction) (links : List Link) (starts : List ℕ) (shown : Shown) (j : ℕ) : Type 0 where
  pub within : j < length links
  pub included : IsIncluded d links starts shown (near_at d links j)
  pub new : ¬ Contains (shown_links shown) j

-- what is seen of a walk: where it goes, what it showed, the link that was taken and not answered, the looks at its nodes
-- and links
pub record WalkValue : Type 0 where
  pub graph : GraphValue
  pub direction : Direction
  pub starts : List ℕ
  pub shown : Shown
  pub waiting : Option ℕ
  pub looked : ℕ

-- the links that were taken: those that were shown, and the one that waits for its answer
abbrev pub taken_links : Shown → Option ℕ → List ℕ
taken_links shown waiting = shown_links shown ++ option_to_list waiting

-- how many nodes were taken from the work list: the looks but those at links
abbrev pub opened_of : WalkValue → ℕ
opened_of w = w.looked - length (taken_links w.shown w.waiting)

-- the nodes that were reached, each once in the order in which they were reached
pub record AreListed (nodes : ℕ) (reached : List Bool) (order : List ℕ) : Type 0 where
  pub sized : length reached ≡ nodes
  pub counted : length order ≡ count_by (λ b. b) reached
  pub each : All (λ v. has reached v ≡ true) order
  pub all : (v : ℕ) → has reached v ≡ true → Contains order v

-- of each node the links before its cursor were taken; no link of the first `opened` nodes is left
pub record AreTaken (d : Direction) (nodes : ℕ) (links : List Link) (reached : List Bool) (order cursors : List ℕ) (opened : ℕ) (taken : List ℕ) : Type 0 where
  pub sized : length cursors ≡ nodes
  pub within : opened ≤ length order
  pub follows : (v : ℕ) → v < nodes → slice_index cursors v < length links → near_at d links (slice_index cursors v) ≡ v
  pub finished : (k : ℕ) → k < opened → length links ≤ slice_index cursors (slice_index order k)
  pub leaves : (j : ℕ) → j < length links → j < slice_index cursors (near_at d links j) → has reached (near_at d links j) ≡ true
  pub each : (j : ℕ) → Contains taken j ↔ ((j < length links) × (j < slice_index cursors (near_at d links j)))
  pub once : AllPairs (λ i j. i ≢ j) taken

-- what is reached is what accepted links lead to
pub record AreFollowed (d : Direction) (links : List Link) (starts : List ℕ) (shown : Shown) (reached : List Bool) : Type 0 where
  pub begins : (v : ℕ) → Contains starts v → has reached v ≡ true
  pub leads : (v : ℕ) → has reached v ≡ true → IsIncluded d links starts shown v
  pub closed : (j : ℕ) → j < length links → is_accepted shown j ≡ true → has reached (far_at d links j) ≡ true
