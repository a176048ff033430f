-- Runs: offers that were made, each with its answer, in order.
use Rattle.std.specs.Prelude.{◌≡◌, ℕ, Bool, true, false, ◌&&◌, ◌||◌, ◌==◌, List, [], ◌∷◌, ◌++◌}
use Rattle.std.specs.List.{list_any}
use Rattle.numbered_graph.specs.declared.direction.Direction.{Direction}
use Rattle.numbered_graph.specs.Links.{near_at}
use Rattle.numbered_graph.specs.Paths.{IsReached}
use Rattle.numbered_offers.specs.declared.edge.Edge.{Edge}
use Rattle.numbered_offers.specs.declared.offer.Offer.{Offer}
use Rattle.numbered_offers.specs.declared.offer.OfferKind.TheVariants.{Optional}
use Rattle.numbered_offers.specs.Edges.{edge_links, dep_at, is_free_at, is_offer, waits, same_offer, required_half}

-- offers with their answers, in order (from guppy's resolves)
abbrev pub Run : Type 0
Run = List (Offer × Bool)

-- the offer was made (from guppy's resolves)
abbrev pub is_asked : Run → Offer → Bool
is_asked run o = list_any (λ s. same_offer s.0 o) run

-- the edge, or a half of it, was accepted
abbrev pub is_accepted_edge : Run → ℕ → Bool
is_accepted_edge run e = list_any (λ s. (s.0.edge == e) && s.1) run

-- an edge is crossed where it is free, or some offer of it was accepted (from guppy's resolves)
abbrev pub is_crossed : List Edge → Run → ℕ → Bool
is_crossed edges run e = is_free_at edges e || is_accepted_edge run e

-- crossed edges lead from a start to the node, in the direction (from guppy's weak features)
abbrev pub IsReachedBy : Direction → List Edge → List ℕ → Run → ℕ → Type 0
IsReachedBy d edges starts run v = IsReached d (edge_links edges) (is_crossed edges run) starts v

module _ (d : Direction) (edges : List Edge) (starts : List ℕ) where
  -- the offer is due: its edge begins at a reached node, and so is the node for which it waits (from guppy's weak features)
  pub record IsDue (run : Run) (o : Offer) : Type 0 where
    pub offered : is_offer edges o ≡ true
    pub near : IsReachedBy d edges starts run (near_at d (edge_links edges) o.edge)
    pub dep : waits d o.kind ≡ true → IsReachedBy d edges starts run (dep_at edges o.edge)

  -- the offer may come next: it is due, was not made, and a required half comes before its optional one
  -- (from guppy's weak features)
  pub record IsNext (run : Run) (o : Offer) : Type 0 where
    pub due : IsDue run o
    pub new : is_asked run o ≡ false
    pub required_first : o.kind ≡ Optional → is_offer edges (required_half o.edge) ≡ true → is_asked run (required_half o.edge) ≡ true

  -- each offer came when it might, by the answers before it (from guppy's weak features)
  pub data IsRun : Run → Type 0 where
    begins : IsRun []
    goes_on : (run : Run) (o : Offer) (answer : Bool) → IsRun run → IsNext run o → IsRun (run ++ (o, answer) ∷ [])

  -- and no offer that is due at the end is missing (from guppy's weak features)
  pub record IsLegalRun (run : Run) : Type 0 where
    pub each : IsRun run
    pub all : (o : Offer) → IsDue run o → is_asked run o ≡ true
