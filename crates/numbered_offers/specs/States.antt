-- What a state stands in between two links, and while a link waits for its answers.
use Rattle.std.specs.Prelude.{◌≡◌, ◌<◌, ◌≤◌, ℕ, Bool, List, length, Option, Some, None, vec_capacity}
use Rattle.numbered_graph.specs.Walks as walks
use Rattle.numbered_offers.specs.declared.edge.Edge.{Edge}
use Rattle.numbered_offers.specs.declared.offer.Offer.{Offer}
use Rattle.numbered_offers.specs.declared.due.Due.{Due}
use Rattle.numbered_offers.specs.declared.state.State.{State}
use Rattle.numbered_offers.specs.Counts.{AreCounted}
use Rattle.numbered_offers.specs.Dues.{asks}
use Rattle.numbered_offers.specs.Graphs.{all_links}
use Rattle.numbered_offers.specs.Keeping.{Keeps, is_asked_at, near_after, dep_after, run_of}

abbrev pub edges_of : State → List Edge
edges_of s = s.graph.now.edges

-- the walk is over all links of the graph, in the direction, and keeps the run of what was asked; `near` and `dep` tell
-- which links were met
pub record Stands (s : State) : Type 0 where
  pub near : List Bool
  pub dep : List Bool
  pub graph : s.walk.graph ≡ record { nodes = s.graph.now.nodes; links = all_links (edges_of s) }
  pub direction : s.walk.direction ≡ s.direction
  pub keeps : Keeps s.direction (edges_of s) s.walk.starts s.walk.shown (run_of s.asked.items) near dep
  pub counted : length s.asked.items ≤ length s.walk.shown
  pub room : length (all_links (edges_of s)) ≤ vec_capacity s.asked
  pub bound : walks.opened_of s.walk ≤ s.graph.now.nodes

-- between two links
pub record Rests (s : State) : Type 0 where
  pub stands : Stands s
  pub counts : AreCounted s.direction (edges_of s) stands.near stands.dep s.whole_open.items s.optional_open.items
  pub idle : s.walk.waiting ≡ None

-- at a link that lowers its counts now
pub record Meets (s : State) (number : ℕ) : Type 0 where
  pub stands : Stands s
  pub counts : AreCounted s.direction (edges_of s) stands.near stands.dep s.whole_open.items s.optional_open.items
  pub waiting : s.walk.waiting ≡ Some number
  pub link_due : walks.IsDue s.direction (all_links (edges_of s)) s.walk.starts s.walk.shown number
  pub left : length s.walk.shown < length (all_links (edges_of s))

-- at a link that lowered its counts, with what is offered there
pub record WaitsFor (s : State) (due : Option Due) : Type 0 where
  pub stands : Stands s
  pub counts : AreCounted s.direction (edges_of s) (near_after (edges_of s) s.link stands.near) (dep_after (edges_of s) s.link stands.dep) s.whole_open.items s.optional_open.items
  pub waiting : s.walk.waiting ≡ Some s.link
  pub link_due : walks.IsDue s.direction (all_links (edges_of s)) s.walk.starts s.walk.shown s.link
  pub offers : (o : Offer) → asks due o ≡ is_asked_at s.direction (edges_of s) stands.near stands.dep s.link o
  pub left : length s.walk.shown < length (all_links (edges_of s))

-- the same graph, direction and starts
pub record IsSameWalk (s t : State) : Type 0 where
  pub graph : t.graph ≡ s.graph
  pub direction : t.direction ≡ s.direction
  pub starts : t.walk.starts ≡ s.walk.starts
