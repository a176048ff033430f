-- Resolves: the links that are shown, and the packages that are included.
use Rattle.std.specs.Prelude.{◌≡◌, ◌↔◌, ℕ, Bool, List, map, length, IsTrue}
use Rattle.numbered_graph.specs.Paths.{any_link, IsReached}
use Rattle.numbered_graph.specs.Sets.{has}
use Rattle.numbered_graph.specs.Walks.{Shown, IsIncluded, IsShowing}
use Rattle.guppy_package_table.specs.Tables.{numbered_links}
use Rattle.guppy_package_graph.specs.Directions.{direction_of}
use Rattle.guppy_package_graph.specs.Queries.{QueryValue}
use Rattle.guppy_package_graph.specs.SetValues.{SetValue}

-- each link that leaves an included package is shown exactly once and no other, and the packages that accepted links
-- lead to from the initials are included, and no other (from guppy's resolves)
pub record IsResolved (q : QueryValue) (shown : Shown) (included : List Bool) : Type 0 where
  pub shows : IsShowing (direction_of q.direction) (numbered_links q.graph) q.initials shown
  pub sized : length included ≡ length q.graph.packages
  pub includes : (v : ℕ) → IsTrue (has included v) ↔ IsIncluded (direction_of q.direction) (numbered_links q.graph) q.initials shown v

-- each link with the query for which it is shown
abbrev pub shown_to : QueryValue → Shown → List ((QueryValue × ℕ) × Bool)
shown_to q shown = map (λ (s : ℕ × Bool). ((q, s.0), s.1)) shown

-- the packages of the set are those that links lead to from the initials, in the query's direction (from guppy's resolves)
pub record IsReachOf (q : QueryValue) (s : SetValue) : Type 0 where
  pub graph : s.graph ≡ q.graph
  pub members : (v : ℕ) → IsTrue (has s.included v) ↔ IsReached (direction_of q.direction) (numbered_links q.graph) any_link q.initials v
