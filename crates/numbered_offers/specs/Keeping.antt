-- How a walk over the links of a graph of offers keeps the run of its offers.
use Rattle.std.specs.Prelude.{◌≡◌, ◌↔◌, ℕ, ◌-◌, ◌<◌, ◌≤◌, ◌∷◌, Bool, true, ◌&&◌, ◌||◌, ◌==◌, not, nat_lt, IsTrue, List, [], ◌++◌, length, Contains, Some, slice_index_or, slice_set, if◌then◌else◌}
use Rattle.numbered_graph.specs.declared.direction.Direction.{Direction}
use Rattle.numbered_graph.specs.Links.{near_at, far_at}
use Rattle.numbered_graph.specs.Sets.{has}
use Rattle.numbered_graph.specs.Walks.{Shown, shown_links, is_accepted, IsIncluded}
use Rattle.numbered_offers.specs.declared.edge.Edge.{Edge}
use Rattle.numbered_offers.specs.declared.offer.Offer.{Offer}
use Rattle.numbered_offers.specs.declared.offer.OfferKind.TheVariants.{Optional}
use Rattle.numbered_offers.specs.declared.state.Asked.{Asked}
use Rattle.numbered_offers.specs.Edges.{edge_links, dep_at, is_free_at, is_offer, waits}
use Rattle.numbered_offers.specs.Runs.{Run, is_asked, is_accepted_edge, IsReachedBy, IsRun}
use Rattle.numbered_offers.specs.Dues.{asked_of}
use Rattle.numbered_offers.specs.Graphs.{halves_of, all_links}

-- the edge whose optional half waits at the link with this number, behind the links of the edges
abbrev pub half_at : List Edge → ℕ → ℕ
half_at edges number = slice_index_or (halves_of edges) (number - length edges) 0

-- the offer was made once its edge was met, and for a half that waits the node for which it waits was met too
abbrev pub is_ready : Direction → List Edge → List Bool → List Bool → Offer → Bool
is_ready d edges near dep o = is_offer edges o && (has near o.edge && (not (waits d o.kind) || has dep o.edge))

-- the offers that are made when a link is met
abbrev pub is_asked_at : Direction → List Edge → List Bool → List Bool → ℕ → Offer → Bool
is_asked_at d edges near dep number o =
    if nat_lt number (length edges)
    then ((number == o.edge) && (is_offer edges o && (not (waits d o.kind) || has dep o.edge)))
    else ((half_at edges number == o.edge) && (waits d o.kind && has near o.edge))

-- what was met once a link is met
abbrev pub near_after : List Edge → ℕ → List Bool → List Bool
near_after edges number near = if nat_lt number (length edges) then slice_set near number true else near

abbrev pub dep_after : List Edge → ℕ → List Bool → List Bool
dep_after edges number dep = if nat_lt number (length edges) then dep else slice_set dep (half_at edges number) true

-- the link is that of an edge that is crossed always
abbrev pub is_free_link : List Edge → ℕ → Bool
is_free_link edges number = nat_lt number (length edges) && is_free_at edges number

-- the links that were shown, the run of offers, the edges that were met, and those whose optional half waits no more
pub record Keeps (d : Direction) (edges : List Edge) (starts : List ℕ) (shown : Shown) (run : Run) (near dep : List Bool) : Type 0 where
  pub near_sized : length near ≡ length edges
  pub dep_sized : length dep ≡ length edges
  pub near_is : (e : ℕ) → e < length edges → IsTrue (has near e) ↔ Contains (shown_links shown) e
  pub dep_is : (j : ℕ) → length edges ≤ j → j < length (all_links edges) → IsTrue (has dep (half_at edges j)) ↔ Contains (shown_links shown) j
  pub asked : (o : Offer) → is_asked run o ≡ is_ready d edges near dep o
  pub legal : IsRun d edges starts run
  pub near_reached : (e : ℕ) → has near e ≡ true → IsReachedBy d edges starts run (near_at d (edge_links edges) e)
  pub dep_reached : (e : ℕ) → has dep e ≡ true → waits d Optional ≡ true → IsReachedBy d edges starts run (dep_at edges e)
  pub far_reached : (j : ℕ) → is_accepted shown j ≡ true → IsReachedBy d edges starts run (far_at d (all_links edges) j)
  pub crossed : (e : ℕ) → is_accepted_edge run e ≡ true → IsIncluded d (all_links edges) starts shown (far_at d (edge_links edges) e)
  pub free : (e : ℕ) → has near e ≡ true → is_free_at edges e ≡ true → is_accepted shown e ≡ true

-- the run of all that was asked
abbrev pub run_of : List Asked → Run
run_of [] = []
run_of (a ∷ rest) = asked_of (Some a.due) a.first a.second ++ run_of rest
