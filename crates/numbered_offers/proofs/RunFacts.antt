-- What one offer more changes.
use Rattle.std.proofs.Common.{◌≡◌, ℕ, Bool, true, false, ◌&&◌, ◌||◌, ◌==◌, ◌⊎◌, inl, inr, List, ◌++◌, refl, ◌∙◌}
use Rattle.std.proofs.lemmas.Bool.{false≢true}
use Rattle.std.proofs.lemmas.List.Folds.{list_any-append}
use Rattle.numbered_graph.specs.declared.direction.Direction.{Direction}
use Rattle.numbered_graph.proofs.PathFacts.{IsReached-weaker}
use Rattle.numbered_offers.specs.declared.edge.Edge.{Edge}
use Rattle.numbered_offers.specs.declared.offer.Offer.{Offer}
use Rattle.numbered_offers.specs.Edges.{edge_links, is_free_at, same_offer}
use Rattle.numbered_offers.proofs.OfferFacts.{either}
use Rattle.numbered_offers.specs.Runs.{Run, is_asked, is_accepted_edge, is_crossed, IsReachedBy}

pub or_left : (s t : Bool) → s ≡ true → (s || t) ≡ true
or_left true t h = refl
or_left false t h = absurd (false≢true h)

pub or_right : (s t : Bool) → t ≡ true → (s || t) ≡ true
or_right true t h = refl
or_right false t h = h

pub or_cases : (s t : Bool) → (s || t) ≡ true → (s ≡ true) ⊎ (t ≡ true)
or_cases true t h = inl refl
or_cases false t h = inr h

pub asked_more : (run more : Run) (o : Offer) → is_asked (run ++ more) o ≡ (is_asked run o || is_asked more o)
asked_more run more o = list_any-append (λ s. same_offer s.0 o) run more

pub accepted_more : (run more : Run) (e : ℕ) → is_accepted_edge (run ++ more) e ≡ (is_accepted_edge run e || is_accepted_edge more e)
accepted_more run more e = list_any-append (λ s. (s.0.edge == e) && s.1) run more

pub crossed_still : (edges : List Edge) (run more : Run) (e : ℕ) → is_crossed edges run e ≡ true → is_crossed edges (run ++ more) e ≡ true
crossed_still edges run more e h = either
    (or_left (is_free_at edges e) (is_accepted_edge (run ++ more) e))
    (λ taken. or_right (is_free_at edges e) (is_accepted_edge (run ++ more) e) (accepted_more run more e ∙ or_left (is_accepted_edge run e) (is_accepted_edge more e) taken))
    (or_cases (is_free_at edges e) (is_accepted_edge run e) h)

module _ (d : Direction) (edges : List Edge) (starts : List ℕ) where
  pub reached_still : (run more : Run) (v : ℕ) → IsReachedBy d edges starts run v → IsReachedBy d edges starts (run ++ more) v
  reached_still run more v h =
      IsReached-weaker d (edge_links edges) (is_crossed edges run) starts (is_crossed edges (run ++ more)) (λ j lt. crossed_still edges run more j) starts (λ v h. h) v h
