-- The begin and the end of a walk over offers.
use Rattle.std.proofs.Common.{◌≡◌, ◌↔◌, ℕ, zero, suc, ◌+◌, ◌-◌, ◌<◌, ◌≤◌, Bool, true, false, cond, ◌&&◌, ◌||◌, not, List, [], ◌∷◌, length, take, filter, replicate, count_by, nat_lt, ◌⊎◌, get_or, Contains, ⊎_elim, add-one, refl, sym, subst, ap, ◌∙◌, arith, true≢false}
use Rattle.std.proofs.lemmas.Bool.{and_parts, or_cases}
use Rattle.std.proofs.lemmas.List.{length-append, take_more, take_all, length-replicate, get_or_default}
use Rattle.std.proofs.lemmas.List.Elements.{filter-append}
use Rattle.std.proofs.lemmas.List.Sums.{sum_by-append}
use Rattle.list_facts.proofs.Membership.{Contains-filter}
use Rattle.numbered_graph.specs.declared.direction.Direction.{Direction}
use Rattle.numbered_graph.specs.Links.{near_at, far_at}
use Rattle.numbered_graph.specs.Listings.{numbers_below}
use Rattle.numbered_graph.specs.Sets.{has}
use Rattle.numbered_graph.specs.Walks.{Shown, shown_links, is_accepted, IsIncluded, IsShowing}
use Rattle.numbered_graph.proofs.Numbers.{numbers-all}
use Rattle.numbered_graph.proofs.PathFacts.{IsReached-start, IsReached-more, IsReached-closed}
use Rattle.numbered_offers.specs.declared.edge.Edge.{Edge}
use Rattle.numbered_offers.specs.declared.edge.EdgeSort.{EdgeSort}
use Rattle.numbered_offers.specs.declared.edge.EdgeSort.TheVariants.{Unconditional, Conditional, Weak}
use Rattle.numbered_offers.specs.declared.offer.Offer.{Offer}
use Rattle.numbered_offers.specs.declared.offer.OfferKind.TheVariants.{Optional}
use Rattle.numbered_offers.specs.Edges.{edge_at, edge_links, dep_at, has_offer, is_free_at, is_offer, is_weak, is_weak_sort, waits}
use Rattle.numbered_offers.specs.Runs.{Run, is_accepted_edge, is_crossed, IsReachedBy, IsDue, IsLegalRun, begins}
use Rattle.numbered_offers.specs.Graphs.{has_optional_half, halves_of, all_links}
use Rattle.numbered_offers.specs.Keeping.{Keeps, half_at}
use Rattle.numbered_offers.proofs.LeastFacts.{edge_number, offer_number}
use Rattle.numbered_offers.proofs.LinkFacts.{length-all_links, near-edge, far-edge, near_half_in}
use Rattle.numbered_offers.proofs.FlagFacts.{true_or_false}
use Rattle.numbered_offers.proofs.StepFacts.{included_reached, optional_waits}

pub no_flag : (n x : ℕ) → has (replicate n false) x ≡ false
no_flag zero x = refl
no_flag (suc n) zero = refl
no_flag (suc n) (suc x) = no_flag n x

no_flag_set : (n x : ℕ) → has (replicate n false) x ≡ true → ⊥
no_flag_set n x h = true≢false (sym h ∙ no_flag n x)

none_shown : (x : ℕ) → Contains (shown_links []) x → ⊥
none_shown x (k, lt, e) = absurd (omega arith)

none_ready : (b w : Bool) → false ≡ (b && (false && w))
none_ready true w = refl
none_ready false w = refl

-- before the first link
pub keeps_start : (d : Direction) (edges : List Edge) (starts : List ℕ) (near dep : List Bool) → near ≡ replicate (length edges) false → dep ≡ replicate (length edges) false → Keeps d edges starts [] [] near dep
keeps_start d edges starts near dep is_near is_dep = rw (is_near, is_dep) (record {
  near_sized = length-replicate (length edges) false;
  dep_sized = length-replicate (length edges) false;
  near_is = λ e small. (λ b. absurd (no_flag_set (length edges) e b), λ c. absurd (none_shown e c));
  dep_is = λ x behind small. (λ b. absurd (no_flag_set (length edges) (half_at edges x) b), λ c. absurd (none_shown x c));
  asked = λ o. none_ready (is_offer edges o) (not (waits d o.kind) || has (replicate (length edges) false) o.edge) ∙ ap (λ b. is_offer edges o && (b && (not (waits d o.kind) || has (replicate (length edges) false) o.edge))) (sym (no_flag (length edges) o.edge));
  legal = begins;
  near_reached = λ e b. absurd (no_flag_set (length edges) e b);
  dep_reached = λ e b w. absurd (no_flag_set (length edges) e b);
  far_reached = λ j b. absurd (true≢false (sym b));
  crossed = λ e b. absurd (true≢false (sym b));
  free = λ e b f. absurd (no_flag_set (length edges) e b);
})

module _ (d : Direction) (edges : List Edge) (starts : List ℕ) (shown : Shown) (run : Run) (near dep : List Bool) (h : Keeps d edges starts shown run near dep) (showing : IsShowing d (all_links edges) starts shown) where
  small_link : (e : ℕ) → e < length edges → e < length (all_links edges)
  small_link e lt = let size = length-all_links edges in omega arith

  near_set : (e : ℕ) → e < length edges → IsIncluded d (all_links edges) starts shown (near_at d (edge_links edges) e) → has near e ≡ true
  near_set e lt here = (h.near_is e lt).1 ((showing.each e).1 (small_link e lt, subst (IsIncluded d (all_links edges) starts shown) (sym (near-edge edges d e lt)) here))

  -- what the run reaches is included
  pub reached_included : (v : ℕ) → IsReachedBy d edges starts run v → IsIncluded d (all_links edges) starts shown v
  reached_included v r = IsReached-closed d (edge_links edges) (is_crossed edges run) starts (IsIncluded d (all_links edges) starts shown) (IsReached-start d (all_links edges) (is_accepted shown) starts) on v r
    where
      on : (e : ℕ) → e < length (edge_links edges) → is_crossed edges run e ≡ true → IsIncluded d (all_links edges) starts shown (near_at d (edge_links edges) e) → IsIncluded d (all_links edges) starts shown (far_at d (edge_links edges) e)
      on e lt crossed here =
          let small = edge_number edges e lt in
          ⊎_elim
          (λ free. subst (IsIncluded d (all_links edges) starts shown) (far-edge edges d e small) (IsReached-more d (all_links edges) (is_accepted shown) starts e (small_link e small) (h.free e (near_set e small here) free) (subst (IsIncluded d (all_links edges) starts shown) (sym (near-edge edges d e small)) here)))
          (λ taken. h.crossed e taken)
          (or_cases (is_free_at edges e) (is_accepted_edge run e) crossed)

  dep_set : (o : Offer) → is_offer edges o ≡ true → waits d o.kind ≡ true → IsReachedBy d edges starts run (dep_at edges o.edge) → has dep o.edge ≡ true
  dep_set o offered w reached =
      let parts = optional_waits d o.kind w in
      let lt = offer_number edges o offered in
      let has_half : has_optional_half edges o.edge ≡ true = subst (λ k. has_offer (edge_at edges o.edge).sort k ≡ true) parts.0 (and_parts (nat_lt o.edge (length edges)) (has_offer (edge_at edges o.edge).sort o.kind) offered).1 in
      let place = Contains-filter (has_optional_half edges) (numbers_below (length edges)) o.edge (numbers-all (length edges) o.edge lt) has_half in
      found o place.0 place.1 (at o place.0 place.1 place.2) (ap (waits d) (sym parts.0) ∙ w) reached
    where
      at : (o : Offer) (k : ℕ) → k < length (halves_of edges) → get_or (halves_of edges) k o.edge ≡ o.edge → half_at edges (length edges + k) ≡ o.edge
      at o k small is =
          let back : length edges + k - length edges ≡ k = omega arith in
          ap (λ i. get_or (halves_of edges) i 0) back ∙ get_or_default (halves_of edges) k 0 o.edge small ∙ is

      found : (o : Offer) (k : ℕ) → k < length (halves_of edges) → half_at edges (length edges + k) ≡ o.edge → waits d Optional ≡ true → IsReachedBy d edges starts run (dep_at edges o.edge) → has dep o.edge ≡ true
      found o k small is w reached =
          let size = length-all_links edges in
          let j = length edges + k in
          let within : j < length (all_links edges) = omega arith in
          let behind : length edges ≤ j = omega arith in
          let here : IsIncluded d (all_links edges) starts shown (near_at d (all_links edges) j) = subst (IsIncluded d (all_links edges) starts shown) (sym (near_half_in d edges j behind within w ∙ ap (dep_at edges) is)) (reached_included (dep_at edges o.edge) reached) in
          subst (λ e. has dep e ≡ true) is ((h.dep_is j behind within).1 ((showing.each j).1 (within, here)))

  -- no due offer is missing
  pub legal_end : IsLegalRun d edges starts run
  legal_end = record {
    each = h.legal;
    all = λ o due. h.asked o ∙ ready o due (true_or_false (waits d o.kind));
  }
    where
      ready : (o : Offer) → IsDue d edges starts run o → (waits d o.kind ≡ true) ⊎ (waits d o.kind ≡ false) → (is_offer edges o && (has near o.edge && (not (waits d o.kind) || has dep o.edge))) ≡ true
      ready o due w =
          let lt = offer_number edges o due.offered in
          let seen = near_set o.edge lt (reached_included _ due.near) in
          ap (λ b. b && (has near o.edge && (not (waits d o.kind) || has dep o.edge))) due.offered
          ∙ ap (λ b. b && (not (waits d o.kind) || has dep o.edge)) seen
          ∙ ⊎_elim (λ y. ap (λ b. not b || has dep o.edge) y ∙ dep_set o due.offered y (due.dep y)) (λ n. ap (λ b. not b || has dep o.edge) n) w

  pub included_is : (v : ℕ) → IsIncluded d (all_links edges) starts shown v ↔ IsReachedBy d edges starts run v
  included_is v = (included_reached d edges starts shown run near dep h v, reached_included v)

-- no more halves are optional than edges are weak
weak_half : (s : EdgeSort) → cond (has_offer s Optional) 1 0 ≤ cond (is_weak_sort s) 1 0
weak_half Unconditional = omega arith
weak_half Conditional = omega arith
weak_half (Weak dep r true) = omega arith
weak_half (Weak dep r false) = omega arith

length_one : (p : ℕ → Bool) (n : ℕ) → length (filter p (n ∷ [])) ≡ cond (p n) 1 0
length_one p n = one (p n)
  where
    one : (b : Bool) → length (cond b (n ∷ []) []) ≡ cond b 1 0
    one true = refl
    one false = refl

count_one : (x : Edge) → count_by is_weak (x ∷ []) ≡ cond (is_weak x) 1 0
count_one x = omega arith

halves_below : (edges : List Edge) (n : ℕ) → n ≤ length edges → length (filter (has_optional_half edges) (numbers_below n)) ≤ count_by is_weak (take n edges)
halves_below edges zero le = omega arith
halves_below edges (suc n) le =
    let before = halves_below edges n (omega arith) in
    let p = has_optional_half edges in
    let last = edge_at edges n in
    let size : length (filter p (numbers_below (suc n))) ≡ length (filter p (numbers_below n)) + length (filter p (n ∷ [])) = ap length (filter-append p (numbers_below n) (n ∷ [])) ∙ length-append (filter p (numbers_below n)) (filter p (n ∷ [])) in
    let one = length_one p n in
    let most = weak_half last.sort in
    let more : count_by is_weak (take (suc n) edges) ≡ count_by is_weak (take n edges) + count_by is_weak (last ∷ []) = ap (λ m. count_by is_weak (take m edges)) (sym (add-one n)) ∙ ap (count_by is_weak) (take_more edges n _ (omega arith)) ∙ sum_by-append (λ x. cond (is_weak x) 1 0) (take n edges) (last ∷ []) in
    let last_is : count_by is_weak (last ∷ []) ≡ cond (is_weak last) 1 0 = count_one last in
    omega arith

pub halves_few : (edges : List Edge) → length (all_links edges) ≤ length edges + count_by is_weak edges
halves_few edges =
    let some = halves_below edges (length edges) (omega arith) in
    let size = length-all_links edges in
    let whole = ap (count_by is_weak) (take_all (length edges) edges (omega arith)) in
    omega arith
