-- Resolves: the links that are offered, and the features that are included.
use Rattle.std.specs.Prelude.{◌≡◌, ◌↔◌, ℕ, Bool, List, map, length, IsTrue}
use Rattle.numbered_graph.specs.Links.{near_of}
use Rattle.numbered_graph.specs.Paths.{any_link, IsReached}
use Rattle.numbered_graph.specs.Sets.{has}
use Rattle.numbered_offers.specs.declared.edge.Edge.{Edge}
use Rattle.numbered_offers.specs.declared.offer.Offer.{Offer}
use Rattle.numbered_offers.specs.Least.{AnswersBy, IsLeast}
use Rattle.numbered_offers.specs.Runs.{IsLegalRun, IsReachedBy, Run}
use Rattle.guppy_package_parts.specs.declared.dependency_direction.DependencyDirection.{DependencyDirection}
use Rattle.guppy_package_graph.specs.Directions.{direction_of}
use Rattle.guppy_feature_nodes.specs.GraphEdges.{edge_ends, ends_of}
use Rattle.guppy_feature_nodes.specs.Offering.{offers_of}
use Rattle.guppy_feature_graph.specs.Links.{link_of}
use Rattle.guppy_feature_views.specs.Links.{LinkValue, edge_of}
use Rattle.guppy_feature_graph.specs.Queries.{QueryValue}
use Rattle.guppy_feature_graph.specs.Sets.{SetValue}

-- the feature from which a link is followed in a direction
abbrev pub near_node : DependencyDirection → LinkValue → ℕ
near_node direction l = near_of (direction_of direction) (ends_of (edge_of l))

-- the edges of a query's graph, as they are offered in its direction
abbrev pub offered_edges : QueryValue → List Edge
offered_edges q = offers_of (direction_of q.direction) q.graph

-- the run makes each offer that is due by the answers before it, none twice, a required half before its optional one, and at
-- its end no offer that is due is missing (from guppy's resolves)
abbrev pub IsLegal : QueryValue → Run → Type 0
IsLegal q run = IsLegalRun (direction_of q.direction) (offered_edges q) q.initials run

-- edges that are crossed always, and those of which an offer was accepted, lead from an initial to the feature
-- (from guppy's resolves)
abbrev pub IsIncluded : QueryValue → Run → ℕ → Type 0
IsIncluded q run v = IsReachedBy (direction_of q.direction) (offered_edges q) q.initials run v

-- the run is legal, and what is reached at its end is included, and nothing else (from guppy's resolves)
pub record IsResolved (q : QueryValue) (run : Run) (included : List Bool) : Type 0 where
  pub legal : IsLegal q run
  pub sized : length included ≡ length q.graph.nodes
  pub includes : (v : ℕ) → IsTrue (has included v) ↔ IsIncluded q run v

-- each link that is shown, with the query for which it is shown, and the answer
abbrev pub shown_to : QueryValue → Run → List ((QueryValue × LinkValue) × Bool)
shown_to q run = map (λ (s : Offer × Bool). ((q, link_of q.graph s.0), s.1)) run

-- the features of the set are those that edges lead to from the initials, in the query's direction (from guppy's resolves)
pub record IsReachOf (q : QueryValue) (s : SetValue) : Type 0 where
  pub graph : s.graph ≡ q.graph
  pub members : (v : ℕ) → IsTrue (has s.included v) ↔ IsReached (direction_of q.direction) (edge_ends q.graph.edges) any_link q.initials v

-- where each answer is a verdict on the link alone, what is reached at the end of a legal run is the least set that holds the
-- initials and is closed under the edges that are crossed always and the offers that are accepted, an optional half that
-- waits having two features to begin at (from guppy's resolves)
abbrev pub IsAlwaysLeast : Type 0
IsAlwaysLeast =
    (q : QueryValue) (accepts : LinkValue → Bool) (run : Run)
    → IsLegal q run
    → AnswersBy (λ o. accepts (link_of q.graph o)) run
    → IsLeast (direction_of q.direction) (offered_edges q) q.initials (λ o. accepts (link_of q.graph o)) (IsIncluded q run)
