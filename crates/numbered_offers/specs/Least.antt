-- Least sets: what is reached where each answer depends on the offer alone.
use Rattle.std.specs.Prelude.{◌≡◌, ℕ, ◌<◌, Bool, true, List, length, All, Contains}
use Rattle.numbered_graph.specs.declared.direction.Direction.{Direction}
use Rattle.numbered_graph.specs.Links.{near_at, far_at}
use Rattle.numbered_offers.specs.declared.edge.Edge.{Edge}
use Rattle.numbered_offers.specs.declared.offer.Offer.{Offer}
use Rattle.numbered_offers.specs.Edges.{edge_links, dep_at, is_free_at, is_offer, waits}
use Rattle.numbered_offers.specs.Runs.{Run, IsReachedBy, IsLegalRun}

module _ (d : Direction) (edges : List Edge) (starts : List ℕ) (accepts : Offer → Bool) where
  -- the set holds the starts, where edges that are crossed always lead from it, and where offers that are accepted lead
  -- from it, an offer that waits having two nodes to begin at
  pub record IsClosed (s : ℕ → Type 0) : Type 0 where
    pub begins : (v : ℕ) → Contains starts v → s v
    pub free : (e : ℕ) → e < length edges → is_free_at edges e ≡ true → s (near_at d (edge_links edges) e) → s (far_at d (edge_links edges) e)
    pub offered : (o : Offer) → is_offer edges o ≡ true → accepts o ≡ true → s (near_at d (edge_links edges) o.edge) → (waits d o.kind ≡ true → s (dep_at edges o.edge)) → s (far_at d (edge_links edges) o.edge)

  -- the set is closed, and lies in each closed set
  pub record IsLeast (s : ℕ → Type 0) : Type 0 where
    pub closed : IsClosed s
    pub within : (t : ℕ → Bool) → IsClosed (λ v. t v ≡ true) → (v : ℕ) → s v → t v ≡ true

-- each answer is that of the verdict on the offer
abbrev pub AnswersBy : (Offer → Bool) → Run → Type 0
AnswersBy accepts run = All (λ s. s.1 ≡ accepts s.0) run

-- each run with these verdicts reaches the least closed set
abbrev pub IsAlwaysLeast : Type 0
IsAlwaysLeast =
    (d : Direction) (edges : List Edge) (starts : List ℕ) (accepts : Offer → Bool) (run : Run)
    → IsLegalRun d edges starts run
    → AnswersBy accepts run
    → IsLeast d edges starts accepts (IsReachedBy d edges starts run)
