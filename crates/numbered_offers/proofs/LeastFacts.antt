-- What a legal run reaches is the least closed set, where answers depend on the offer alone.
use Rattle.std.proofs.Common.{◌≡◌, ℕ, ◌<◌, Bool, true, false, ◌&&◌, ◌==◌, List, [], ◌∷◌, ◌++◌, length, nat_lt, refl, sym, subst, ap, ◌∙◌, ◌↔◌, arith}
use Rattle.std.proofs.lemmas.Bool.Decides.{nat_tests}
use Rattle.std.proofs.lemmas.Bool.{and_parts, false≢true}
use Rattle.std.proofs.lemmas.List.Elements.{All-contains, Contains-append_left, Contains-append_right}
use Rattle.std.proofs.lemmas.List.{length-map}
use Rattle.list_facts.proofs.Quantifiers.{All-from_Contains, list_any_cases, list_any-from_Contains}
use Rattle.numbered_graph.specs.declared.direction.Direction.{Direction}
use Rattle.numbered_graph.specs.Links.{near_at, far_at}
use Rattle.numbered_graph.proofs.PathFacts.{IsReached-closed, IsReached-start, IsReached-more}
use Rattle.numbered_offers.specs.declared.edge.Edge.{Edge}
use Rattle.numbered_offers.specs.declared.offer.Offer.{Offer}
use Rattle.numbered_offers.specs.Edges.{edge_links, link_of, dep_at, is_free_at, is_offer, has_offer, edge_at, same_offer}
use Rattle.numbered_offers.specs.Runs.{Run, is_asked, is_accepted_edge, is_crossed, IsReachedBy, IsNext, IsRun, begins, goes_on, IsLegalRun}
use Rattle.numbered_offers.specs.Least.{IsClosed, IsLeast, AnswersBy}
use Rattle.numbered_offers.proofs.OfferFacts.{either, same_edge, same_offer-is}
use Rattle.numbered_offers.proofs.RunFacts.{or_left, or_right, or_cases, accepted_more}

-- numbers of edges are those of their links
pub link_number : (edges : List Edge) (e : ℕ) → e < length edges → e < length (edge_links edges)
link_number edges e lt = subst (λ n. e < n) (sym (length-map edges link_of)) lt

pub edge_number : (edges : List Edge) (e : ℕ) → e < length (edge_links edges) → e < length edges
edge_number edges e lt = subst (λ n. e < n) (length-map edges link_of) lt

lt_test : (a b : ℕ) → nat_lt a b ≡ true → a < b
lt_test a b h = grind (arith, nat_tests, h)

pub offer_number : (edges : List Edge) (o : Offer) → is_offer edges o ≡ true → o.edge < length edges
offer_number edges o h = lt_test o.edge (length edges) (and_parts (nat_lt o.edge (length edges)) (has_offer (edge_at edges o.edge).sort o.kind) h).0

-- the one offer that was made is of this edge
pub only : (o : Offer) (answer : Bool) (e : ℕ) → is_accepted_edge ((o, answer) ∷ []) e ≡ true → (o.edge ≡ e) × (answer ≡ true)
only o answer e h = either (λ k. (same_edge o.edge e (and_parts (o.edge == e) answer k).0, (and_parts (o.edge == e) answer k).1)) (λ k. absurd (false≢true k)) (or_cases ((o.edge == e) && answer) false h)

self_same : (e : ℕ) → ((e == e) && true) ≡ true
self_same e = grind (arith, nat_tests)

module _ (d : Direction) (edges : List Edge) (starts : List ℕ) where
  abbrev near : ℕ → ℕ
  near e = near_at d (edge_links edges) e

  abbrev far : ℕ → ℕ
  far e = far_at d (edge_links edges) e

  module _ (accepts : Offer → Bool) (t : ℕ → Type 0) (closed : IsClosed d edges starts accepts t) where
    -- a run that took only what leads on within the set
    abbrev Carries : Run → Type 0
    Carries run = (e : ℕ) → is_accepted_edge run e ≡ true → t (near e) → t (far e)

    reached_within : (run : Run) → Carries run → (v : ℕ) → IsReachedBy d edges starts run v → t v
    reached_within run carries v h = IsReached-closed d (edge_links edges) (is_crossed edges run) starts t closed.begins on v h
      where
        on : (e : ℕ) → e < length (edge_links edges) → is_crossed edges run e ≡ true → t (near e) → t (far e)
        on e lt crossed here = either (λ free. closed.free e (edge_number edges e lt) free here) (λ taken. carries e taken here) (or_cases (is_free_at edges e) (is_accepted_edge run e) crossed)

    carries_more : (run : Run) (o : Offer) (answer : Bool) → Carries run → IsNext d edges starts run o → answer ≡ accepts o → Carries (run ++ (o, answer) ∷ [])
    carries_more run o answer carries next by e taken here =
        either (λ before. carries e before here) (λ now. step (only o answer e now)) (or_cases (is_accepted_edge run e) (is_accepted_edge ((o, answer) ∷ []) e) (sym (accepted_more run ((o, answer) ∷ []) e) ∙ taken))
      where
        step : (o.edge ≡ e) × (answer ≡ true) → t (far e)
        step h = subst (λ x. t (far x)) h.0 (closed.offered o next.due.offered (sym by ∙ h.1) (reached_within run carries (near o.edge) next.due.near) (λ w. reached_within run carries (dep_at edges o.edge) (next.due.dep w)))

    run_carries : (run : Run) → IsRun d edges starts run → AnswersBy accepts run → Carries run
    run_carries run begins by = λ e h here. absurd (false≢true h)
    run_carries all (goes_on run o answer so_far next) by =
        let P = λ (s : Offer × Bool). s.1 ≡ accepts s.0 in
        let more = run ++ (o, answer) ∷ [] in
        let earlier = All-from_Contains P run (λ s h. All-contains P more s by (Contains-append_left run ((o, answer) ∷ []) s h)) in
        carries_more run o answer (run_carries run so_far earlier) next (All-contains P more (o, answer) by (Contains-append_right run ((o, answer) ∷ []) (o, answer) (0, omega arith, refl)))

  module _ (accepts : Offer → Bool) (run : Run) (legal : IsLegalRun d edges starts run) (by : AnswersBy accepts run) where
    -- an offer that was made and that the verdict accepts was accepted
    was_accepted : (o : Offer) → is_asked run o ≡ true → accepts o ≡ true → is_accepted_edge run o.edge ≡ true
    was_accepted o asked accepted =
        let found = list_any_cases (λ s. same_offer s.0 o) run asked in
        let is = same_offer-is found.0.0 o found.2 in
        list_any-from_Contains (λ s. (s.0.edge == o.edge) && s.1) run found.0 found.1 (passes found.0 is (All-contains (λ (s : Offer × Bool). s.1 ≡ accepts s.0) run found.0 by found.1))
      where
        passes : (s : Offer × Bool) → s.0 ≡ o → s.1 ≡ accepts s.0 → ((s.0.edge == o.edge) && s.1) ≡ true
        passes s is answer = ap (λ p. (p.edge == o.edge) && s.1) is ∙ ap (λ b. (o.edge == o.edge) && b) (answer ∙ ap accepts is ∙ accepted) ∙ self_same o.edge

    crossing : (e : ℕ) → e < length edges → is_crossed edges run e ≡ true → IsReachedBy d edges starts run (near e) → IsReachedBy d edges starts run (far e)
    crossing e lt crossed here = IsReached-more d (edge_links edges) (is_crossed edges run) starts e (link_number edges e lt) crossed here

    pub least_set : IsLeast d edges starts accepts (IsReachedBy d edges starts run)
    least_set = record {
      closed = record {
        begins = IsReached-start d (edge_links edges) (is_crossed edges run) starts;
        free = λ e lt free. crossing e lt (or_left (is_free_at edges e) (is_accepted_edge run e) free);
        offered = λ o offered accepted near dep. crossing o.edge (offer_number edges o offered) (or_right (is_free_at edges o.edge) (is_accepted_edge run o.edge) (was_accepted o (legal.all o (record { offered = offered; near = near; dep = dep })) accepted)) near;
      };
      within = λ t closed v h. reached_within accepts (λ v. t v ≡ true) closed run (run_carries accepts (λ v. t v ≡ true) closed run legal.each by) v h;
    }

-- a set with the same nodes is least too
pub least_same : (d : Direction) (edges : List Edge) (starts : List ℕ) (accepts : Offer → Bool) (s t : ℕ → Type 0) → ((v : ℕ) → t v ↔ s v) → IsLeast d edges starts accepts s → IsLeast d edges starts accepts t
least_same d edges starts accepts s t same least = record {
  closed = record {
    begins = λ v h. (same v).1 (least.closed.begins v h);
    free = λ e lt free here. (same (far_at d (edge_links edges) e)).1 (least.closed.free e lt free ((same (near_at d (edge_links edges) e)).0 here));
    offered = λ o offered accepted near dep. (same (far_at d (edge_links edges) o.edge)).1 (least.closed.offered o offered accepted ((same (near_at d (edge_links edges) o.edge)).0 near) (λ w. (same (dep_at edges o.edge)).0 (dep w)));
  };
  within = λ u closed v h. least.within u closed v ((same v).0 h);
}
