-- One link more is met, and what is offered there is asked.
use Rattle.std.proofs.Common.{◌≡◌, ◌↔◌, ℕ, ◌<◌, ◌≤◌, Bool, true, false, ◌&&◌, ◌||◌, ◌==◌, not, IsTrue, nat_lt, List, [], ◌∷◌, ◌++◌, length, set, Option, Contains, ◌⊎◌, inl, inr, ⊎_elim, refl, sym, subst, ap, ◌∙◌, arith, true≢false}
use Rattle.std.proofs.lemmas.Bool.{and_parts, eq-eqb, or_cases, or_left, or_right, cases_lt}
use Rattle.std.proofs.lemmas.Bool.Decides.{nat_tests}
use Rattle.std.proofs.lemmas.List.{length-set}
use Rattle.std.proofs.lemmas.List.Elements.{Contains-push, Contains-push_cases, Contains-append_left}
use Rattle.std.specs.Bool.{if◌then◌else◌}
use Rattle.numbered_graph.specs.declared.direction.Direction.{Direction}
use Rattle.numbered_graph.specs.declared.direction.Direction.TheVariants.{Forward, Reverse}
use Rattle.numbered_graph.specs.Links.{near_at, far_at}
use Rattle.numbered_graph.specs.Sets.{has}
use Rattle.numbered_graph.specs.Walks as walks
use Rattle.numbered_graph.specs.Walks.{Shown, shown_links, is_accepted, IsIncluded}
use Rattle.numbered_graph.proofs.PathFacts.{IsReached-start, IsReached-more, IsReached-closed, IsReached-weaker}
use Rattle.numbered_offers.specs.declared.edge.Edge.{Edge}
use Rattle.numbered_offers.specs.declared.offer.Offer.{Offer}
use Rattle.numbered_offers.specs.declared.offer.OfferKind.{OfferKind}
use Rattle.numbered_offers.specs.declared.offer.OfferKind.TheVariants.{Unsplit, Required, Optional}
use Rattle.numbered_offers.specs.declared.due.Due.{Due}
use Rattle.numbered_offers.specs.Edges.{edge_links, dep_at, is_free_at, is_offer, waits, required_half}
use Rattle.numbered_offers.specs.Runs.{Run, is_asked, is_accepted_edge, is_crossed, IsReachedBy, IsDue}
use Rattle.numbered_offers.specs.Dues.{asks, asked_of, accepted_of}
use Rattle.numbered_offers.specs.Graphs.{all_links}
use Rattle.numbered_offers.specs.Keeping.{Keeps, half_at, is_ready, is_asked_at, near_after, dep_after, is_free_link}
use Rattle.numbered_offers.proofs.OfferFacts.{same_edge}
use Rattle.numbered_offers.proofs.RunFacts.{asked_more, accepted_more, reached_still}
use Rattle.numbered_offers.proofs.LeastFacts.{link_number}
use Rattle.numbered_offers.proofs.LinkFacts.{near-edge, far-edge, near_half_in, far_half_in, half_is_offer, half_small}
use Rattle.numbered_offers.proofs.FlagFacts.{true_or_false, or_false, has-set_is, set_cases, set_still, set_now, mark_is, other_is, half_apart, links_push, accepted_still, accepted_now, accepted_cases}
use Rattle.numbered_offers.proofs.MadeFacts.{asked_is, someone, accepted_new, accepted_only, made}

-- an edge that is met asks what has not been asked of it
edge_asked : (p n w b q v : Bool) → (b ≡ true → n ≡ false) → (b ≡ true → q ≡ p) → (b ≡ true → v ≡ w) → ((p && (n && w)) || (b && (q && v))) ≡ (p && ((n || b) && w))
edge_asked p n w true q v f g h = rw (f refl, g refl, h refl) (whole p w)
  where
    whole : (x y : Bool) → ((x && (false && y)) || (x && y)) ≡ (x && y)
    whole true y = refl
    whole false y = refl
edge_asked p n w false q v f g h = rw (or_false n) (or_false (p && (n && w)))

-- a half whose node is met is asked if its edge was met
half_asked : (p n v c b m : Bool) → (b ≡ true → c ≡ false) → (b ≡ true → v ≡ true → p ≡ true) → (b ≡ true → m ≡ n) → ((p && (n && (not v || c))) || (b && (v && m))) ≡ (p && (n && (not v || (c || b))))
half_asked p n v c b m f g h = grind (arith, nat_tests, f, g, h)

pub optional_waits : (d : Direction) (k : OfferKind) → waits d k ≡ true → (k ≡ Optional) × (d ≡ Forward)
optional_waits Forward Unsplit h = absurd (true≢false (sym h))
optional_waits Forward Required h = absurd (true≢false (sym h))
optional_waits Forward Optional h = (refl, refl)
optional_waits Reverse k h = absurd (true≢false (sym h))

required_waits_not : (d : Direction) → waits d Required ≡ false
required_waits_not Forward = refl
required_waits_not Reverse = refl

module _ (d : Direction) (edges : List Edge) (starts : List ℕ) (shown : Shown) (run : Run) (near dep : List Bool) (h : Keeps d edges starts shown run near dep) where
  -- what the walk includes is reached by the run
  pub included_reached : (v : ℕ) → IsIncluded d (all_links edges) starts shown v → IsReachedBy d edges starts run v
  included_reached v i =
      IsReached-closed d (all_links edges) (is_accepted shown) starts (IsReachedBy d edges starts run) (IsReached-start d (edge_links edges) (is_crossed edges run) starts) (λ x lt accepted here. h.far_reached x accepted) v i

  module _ (j : ℕ) (due : Option Due) (first second : Bool) where
    abbrev new : Run
    new = asked_of due first second

    still : (v : ℕ) → IsReachedBy d edges starts run v → IsReachedBy d edges starts (run ++ new) v
    still v i = reached_still d edges starts run new v i

    included_still : (b : Bool) (v : ℕ) → IsIncluded d (all_links edges) starts shown v → IsIncluded d (all_links edges) starts (shown ++ (j, b) ∷ []) v
    included_still b v i = IsReached-weaker d (all_links edges) (is_accepted shown) starts (is_accepted (shown ++ (j, b) ∷ [])) (λ x lt. accepted_still shown j b x) starts (λ v h. h) v i

    crosses : (e : ℕ) → e < length edges → is_crossed edges (run ++ new) e ≡ true → IsReachedBy d edges starts run (near_at d (edge_links edges) e) → IsReachedBy d edges starts (run ++ new) (far_at d (edge_links edges) e)
    crosses e lt ok here = IsReached-more d (edge_links edges) (is_crossed edges (run ++ new)) starts e (link_number edges e lt) ok (still (near_at d (edge_links edges) e) here)

    is_due_from : (near2 dep2 : List Bool) → ((e : ℕ) → has near2 e ≡ true → IsReachedBy d edges starts run (near_at d (edge_links edges) e)) → ((e : ℕ) → has dep2 e ≡ true → waits d Optional ≡ true → IsReachedBy d edges starts run (dep_at edges e)) → (o : Offer) → is_ready d edges near2 dep2 o ≡ true → IsDue d edges starts run o
    is_due_from near2 dep2 n p o ready =
        let a = and_parts (is_offer edges o) (has near2 o.edge && (not (waits d o.kind) || has dep2 o.edge)) ready in
        let b = and_parts (has near2 o.edge) (not (waits d o.kind) || has dep2 o.edge) a.1 in
        record {
          offered = a.0;
          near = n o.edge b.0;
          dep = λ w. let k = optional_waits d o.kind w in p o.edge (ap (λ t. not t || has dep2 o.edge) (sym w) ∙ b.1) (ap (waits d) (sym k.0) ∙ w);
        }

    asked_next : (near2 dep2 : List Bool) (o : Offer) → (is_ready d edges near dep o || asks due o) ≡ is_ready d edges near2 dep2 o → is_asked (run ++ new) o ≡ is_ready d edges near2 dep2 o
    asked_next near2 dep2 o step = asked_more run new o ∙ ap (λ b. b || is_asked new o) (h.asked o) ∙ ap (λ b. is_ready d edges near dep o || b) (asked_is due first second o) ∙ step

    -- the link of an edge
    module _ (link_due : walks.IsDue d (all_links edges) starts shown j) (lt : j < length edges) (offers : (o : Offer) → asks due o ≡ ((j == o.edge) && (is_offer edges o && (not (waits d o.kind) || has dep o.edge)))) where
      abbrev taken : Bool
      taken = is_free_at edges j || accepted_of due first second

      in_near : j < length near
      in_near = let s = h.near_sized in omega arith

      was_not : has near j ≡ false
      was_not = ⊎_elim (λ b. absurd (link_due.new ((h.near_is j lt).0 b))) (λ b. b) (true_or_false (has near j))

      of_edge : (o : Offer) → asks due o ≡ true → o.edge ≡ j
      of_edge o a = sym (same_edge j o.edge (and_parts (j == o.edge) (is_offer edges o && (not (waits d o.kind) || has dep o.edge)) (sym (offers o) ∙ a)).0)

      near_now : IsReachedBy d edges starts run (near_at d (edge_links edges) j)
      near_now = subst (IsReachedBy d edges starts run) (near-edge edges d j lt) (included_reached (near_at d (all_links edges) j) link_due.included)

      near_next : (e : ℕ) → has (set near j true) e ≡ true → IsReachedBy d edges starts run (near_at d (edge_links edges) e)
      near_next e b = ⊎_elim (h.near_reached e) (λ s. subst (λ x. IsReachedBy d edges starts run (near_at d (edge_links edges) x)) s near_now) (set_cases near j e in_near b)

      step_asked : (o : Offer) → (is_ready d edges near dep o || asks due o) ≡ is_ready d edges (set near j true) dep o
      step_asked o =
          ap (λ b. is_ready d edges near dep o || b) (offers o)
          ∙ edge_asked (is_offer edges o) (has near o.edge) (not (waits d o.kind) || has dep o.edge) (j == o.edge) (is_offer edges o) (not (waits d o.kind) || has dep o.edge) (λ b. subst (λ x. has near x ≡ false) (same_edge j o.edge b) was_not) (λ b. refl) (λ b. refl)
          ∙ ap (λ b. is_offer edges o && (b && (not (waits d o.kind) || has dep o.edge))) (sym (has-set_is near j o.edge in_near))

      ready_next : (o : Offer) → asks due o ≡ true → is_ready d edges (set near j true) dep o ≡ true
      ready_next o a = sym (step_asked o) ∙ or_right (is_ready d edges near dep o) (asks due o) a

      new_offer : (o : Offer) → asks due o ≡ true → is_asked run o ≡ false
      new_offer o a = h.asked o ∙ ap (λ b. is_offer edges o && (b && (not (waits d o.kind) || has dep o.edge))) (subst (λ x. has near x ≡ false) (sym (of_edge o a)) was_not) ∙ none (is_offer edges o)
        where
          none : (b : Bool) → (b && false) ≡ false
          none true = refl
          none false = refl

      required_too : (o : Offer) → asks due o ≡ true → o.kind ≡ Optional → is_offer edges (required_half o.edge) ≡ true → (is_asked run (required_half o.edge) ≡ true) ⊎ (asks due (required_half o.edge) ≡ true)
      required_too o a optional there = inr (offers (required_half o.edge) ∙ ap (λ b. b && (is_offer edges (required_half o.edge) && (not (waits d Required) || has dep o.edge))) (eq-eqb j o.edge (sym (of_edge o a))) ∙ ap (λ b. b && (not (waits d Required) || has dep o.edge)) there ∙ ap (λ b. not b || has dep o.edge) (required_waits_not d))

      far_taken : taken ≡ true → IsReachedBy d edges starts (run ++ new) (far_at d (all_links edges) j)
      far_taken t = subst (IsReachedBy d edges starts (run ++ new)) (sym (far-edge edges d j lt)) (crosses j lt (crossed_now (or_cases (is_free_at edges j) (accepted_of due first second) t)) near_now)
        where
          crossed_now : (is_free_at edges j ≡ true) ⊎ (accepted_of due first second ≡ true) → is_crossed edges (run ++ new) j ≡ true
          crossed_now s = ⊎_elim
              (λ f. or_left (is_free_at edges j) (is_accepted_edge (run ++ new) j) f)
              (λ a. or_right (is_free_at edges j) (is_accepted_edge (run ++ new) j) (accepted_more run new j ∙ or_right (is_accepted_edge run j) (is_accepted_edge new j) (accepted_new j due first second of_edge a)))
              s

      far_included : taken ≡ true → IsIncluded d (all_links edges) starts (shown ++ (j, taken) ∷ []) (far_at d (edge_links edges) j)
      far_included t = subst (IsIncluded d (all_links edges) starts (shown ++ (j, taken) ∷ [])) (far-edge edges d j lt)
          (IsReached-more d (all_links edges) (is_accepted (shown ++ (j, taken) ∷ [])) starts j link_due.within (accepted_now shown j taken t) (included_still taken (near_at d (all_links edges) j) link_due.included))

      pub edge_due : (o : Offer) → asks due o ≡ true → IsDue d edges starts run o
      edge_due o a = is_due_from (set near j true) dep near_next h.dep_reached o (ready_next o a)

      pub edge_step : Keeps d edges starts (shown ++ (j, taken) ∷ []) (run ++ new) (set near j true) dep
      edge_step = record {
        near_sized = length-set near j true ∙ h.near_sized;
        dep_sized = h.dep_sized;
        near_is = λ e small. subst (λ xs. IsTrue (has (set near j true) e) ↔ Contains xs e) (sym (links_push shown j taken)) (mark_is near (shown_links shown) j e in_near (h.near_is e small));
        dep_is = λ x behind small. subst (λ xs. IsTrue (has dep (half_at edges x)) ↔ Contains xs x) (sym (links_push shown j taken)) (other_is (IsTrue (has dep (half_at edges x))) (shown_links shown) j x (λ s. omega arith) (h.dep_is x behind small));
        asked = λ o. asked_next (set near j true) dep o (step_asked o);
        legal = made d edges starts run due first second h.legal edge_due new_offer required_too;
        near_reached = λ e b. still _ (near_next e b);
        dep_reached = λ e b w. still _ (h.dep_reached e b w);
        far_reached = λ x a. ⊎_elim (λ old. still _ (h.far_reached x old)) (λ s. subst (λ y. IsReachedBy d edges starts (run ++ new) (far_at d (all_links edges) y)) s.0 (far_taken s.1)) (accepted_cases shown j taken x a);
        crossed = λ e a. ⊎_elim (λ old. included_still taken _ (h.crossed e old)) (λ s. let k = accepted_only j due first second e of_edge s in subst (λ y. IsIncluded d (all_links edges) starts (shown ++ (j, taken) ∷ []) (far_at d (edge_links edges) y)) k.0 (far_included (or_right (is_free_at edges j) (accepted_of due first second) k.1))) (or_cases (is_accepted_edge run e) (is_accepted_edge new e) (sym (accepted_more run new e) ∙ a));
        free = λ e b f. ⊎_elim (λ old. accepted_still shown j taken e (h.free e old f)) (λ s. subst (λ y. is_accepted (shown ++ (j, taken) ∷ []) y ≡ true) s (accepted_now shown j taken (or_left (is_free_at edges j) (accepted_of due first second) (ap (is_free_at edges) s ∙ f)))) (set_cases near j e in_near b);
      }

    -- the link of an optional half
    module _ (link_due : walks.IsDue d (all_links edges) starts shown j) (behind : length edges ≤ j) (offers : (o : Offer) → asks due o ≡ ((half_at edges j == o.edge) && (waits d o.kind && has near o.edge))) where
      abbrev e : ℕ
      e = half_at edges j

      abbrev taken_half : Bool
      taken_half = accepted_of due first second

      within : j < length (all_links edges)
      within = link_due.within

      e_small : e < length edges
      e_small = half_small edges j behind within

      in_dep : e < length dep
      in_dep = let s = h.dep_sized in let k = e_small in omega arith

      dep_was_not : has dep e ≡ false
      dep_was_not = ⊎_elim (λ b. absurd (link_due.new ((h.dep_is j behind within).0 b))) (λ b. b) (true_or_false (has dep e))

      parts : (o : Offer) → asks due o ≡ true → (e ≡ o.edge) × (waits d o.kind ≡ true) × (has near o.edge ≡ true)
      parts o a =
          let p = and_parts (e == o.edge) (waits d o.kind && has near o.edge) (sym (offers o) ∙ a) in
          let q = and_parts (waits d o.kind) (has near o.edge) p.1 in
          (same_edge e o.edge p.0, q.0, q.1)

      of_half : (o : Offer) → asks due o ≡ true → o.edge ≡ e
      of_half o a = sym (parts o a).0

      half_there : (k : OfferKind) → waits d k ≡ true → (x : ℕ) → e ≡ x → is_offer edges (record { edge = x; kind = k }) ≡ true
      half_there k w x s = subst (λ y. is_offer edges (record { edge = y; kind = k }) ≡ true) s (subst (λ m. is_offer edges (record { edge = e; kind = m }) ≡ true) (sym (optional_waits d k w).0) (half_is_offer edges j behind within))

      dep_now : waits d Optional ≡ true → IsReachedBy d edges starts run (dep_at edges e)
      dep_now w = subst (IsReachedBy d edges starts run) (near_half_in d edges j behind within w) (included_reached (near_at d (all_links edges) j) link_due.included)

      dep_next : (x : ℕ) → has (set dep e true) x ≡ true → waits d Optional ≡ true → IsReachedBy d edges starts run (dep_at edges x)
      dep_next x b w = ⊎_elim (λ old. h.dep_reached x old w) (λ s. subst (λ y. IsReachedBy d edges starts run (dep_at edges y)) s (dep_now w)) (set_cases dep e x in_dep b)

      half_step_asked : (o : Offer) → (is_ready d edges near dep o || asks due o) ≡ is_ready d edges near (set dep e true) o
      half_step_asked o =
          ap (λ b. is_ready d edges near dep o || b) (offers o)
          ∙ half_asked (is_offer edges o) (has near o.edge) (waits d o.kind) (has dep o.edge) (e == o.edge) (has near o.edge) (λ b. subst (λ x. has dep x ≡ false) (same_edge e o.edge b) dep_was_not) (λ b w. half_there o.kind w o.edge (same_edge e o.edge b)) (λ b. refl)
          ∙ ap (λ b. is_offer edges o && (has near o.edge && (not (waits d o.kind) || b))) (sym (has-set_is dep e o.edge in_dep))

      half_ready : (o : Offer) → asks due o ≡ true → is_ready d edges near (set dep e true) o ≡ true
      half_ready o a = sym (half_step_asked o) ∙ or_right (is_ready d edges near dep o) (asks due o) a

      new_half : (o : Offer) → asks due o ≡ true → is_asked run o ≡ false
      new_half o a = h.asked o ∙ ap (λ b. is_offer edges o && (has near o.edge && (not b || has dep o.edge))) (parts o a).1 ∙ ap (λ b. is_offer edges o && (has near o.edge && b)) (subst (λ x. has dep x ≡ false) (parts o a).0 dep_was_not) ∙ none (is_offer edges o) (has near o.edge)
        where
          none : (a b : Bool) → (a && (b && false)) ≡ false
          none true true = refl
          none true false = refl
          none false b = refl

      required_was : (o : Offer) → asks due o ≡ true → o.kind ≡ Optional → is_offer edges (required_half o.edge) ≡ true → (is_asked run (required_half o.edge) ≡ true) ⊎ (asks due (required_half o.edge) ≡ true)
      required_was o a optional there = inl (h.asked (required_half o.edge) ∙ ap (λ b. b && (has near o.edge && (not (waits d Required) || has dep o.edge))) there ∙ ap (λ b. b && (not (waits d Required) || has dep o.edge)) (parts o a).2 ∙ ap (λ b. not b || has dep o.edge) (required_waits_not d))

      far_half_taken : taken_half ≡ true → (far_at d (all_links edges) j ≡ far_at d (edge_links edges) e) × IsReachedBy d edges starts (run ++ new) (far_at d (edge_links edges) e)
      far_half_taken t =
          let o = someone due first second t in
          let p = parts o.0 o.1 in
          let crossed_now = or_right (is_free_at edges e) (is_accepted_edge (run ++ new) e) (accepted_more run new e ∙ or_right (is_accepted_edge run e) (is_accepted_edge new e) (accepted_new e due first second of_half t)) in
          (far_half_in d edges j behind within o.0.kind p.1, crosses e e_small crossed_now (h.near_reached e (subst (λ x. has near x ≡ true) (sym p.0) p.2)))

      far_half_included : taken_half ≡ true → IsIncluded d (all_links edges) starts (shown ++ (j, taken_half) ∷ []) (far_at d (edge_links edges) e)
      far_half_included t = subst (IsIncluded d (all_links edges) starts (shown ++ (j, taken_half) ∷ [])) (far_half_taken t).0
          (IsReached-more d (all_links edges) (is_accepted (shown ++ (j, taken_half) ∷ [])) starts j within (accepted_now shown j taken_half t) (included_still taken_half (near_at d (all_links edges) j) link_due.included))

      pub half_due : (o : Offer) → asks due o ≡ true → IsDue d edges starts run o
      half_due o a = is_due_from near (set dep e true) h.near_reached dep_next o (half_ready o a)

      pub half_step : Keeps d edges starts (shown ++ (j, taken_half) ∷ []) (run ++ new) near (set dep e true)
      half_step = record {
        near_sized = h.near_sized;
        dep_sized = length-set dep e true ∙ h.dep_sized;
        near_is = λ x small. subst (λ xs. IsTrue (has near x) ↔ Contains xs x) (sym (links_push shown j taken_half)) (other_is (IsTrue (has near x)) (shown_links shown) j x (λ s. omega arith) (h.near_is x small));
        dep_is = λ x from small. subst (λ xs. IsTrue (has (set dep e true) (half_at edges x)) ↔ Contains xs x) (sym (links_push shown j taken_half)) (half_mark x from small);
        asked = λ o. asked_next near (set dep e true) o (half_step_asked o);
        legal = made d edges starts run due first second h.legal half_due new_half required_was;
        near_reached = λ x b. still _ (h.near_reached x b);
        dep_reached = λ x b w. still _ (dep_next x b w);
        far_reached = λ x a. ⊎_elim (λ old. still _ (h.far_reached x old)) (λ s. subst (λ y. IsReachedBy d edges starts (run ++ new) (far_at d (all_links edges) y)) s.0 (let f = far_half_taken s.1 in subst (IsReachedBy d edges starts (run ++ new)) (sym f.0) f.1)) (accepted_cases shown j taken_half x a);
        crossed = λ x a. ⊎_elim (λ old. included_still taken_half _ (h.crossed x old)) (λ s. let k = accepted_only e due first second x of_half s in subst (λ y. IsIncluded d (all_links edges) starts (shown ++ (j, taken_half) ∷ []) (far_at d (edge_links edges) y)) k.0 (far_half_included k.1)) (or_cases (is_accepted_edge run x) (is_accepted_edge new x) (sym (accepted_more run new x) ∙ a));
        free = λ x b f. accepted_still shown j taken_half x (h.free x b f);
      }
        where
          half_mark : (x : ℕ) → length edges ≤ x → x < length (all_links edges) → IsTrue (has (set dep e true) (half_at edges x)) ↔ Contains (shown_links shown ++ j ∷ []) x
          half_mark x from small =
              let was = h.dep_is x from small in (
                λ b. ⊎_elim (λ old. Contains-append_left (shown_links shown) (j ∷ []) x (was.0 old)) (λ s. subst (Contains (shown_links shown ++ j ∷ [])) (half_apart edges j x behind within from small s) (Contains-push (shown_links shown) j)) (set_cases dep e (half_at edges x) in_dep b),
                λ c. ⊎_elim (λ old. set_still dep e (half_at edges x) in_dep (was.1 old)) (λ s. set_now dep e (half_at edges x) in_dep (ap (half_at edges) s)) (Contains-push_cases (shown_links shown) j x c),
              )

lt_is : (a b : ℕ) → a < b → nat_lt a b ≡ true
lt_is a b h = grind (arith, nat_tests, h)

ge_is : (a b : ℕ) → b ≤ a → nat_lt a b ≡ false
ge_is a b h = grind (arith, nat_tests, h)

module _ (d : Direction) (edges : List Edge) (starts : List ℕ) (shown : Shown) (run : Run) (near dep : List Bool) (j : ℕ) (due : Option Due) (first second : Bool) (h : Keeps d edges starts shown run near dep) (link_due : walks.IsDue d (all_links edges) starts shown j) (offers : (o : Offer) → asks due o ≡ is_asked_at d edges near dep j o) where
  of_edges : j < length edges → (o : Offer) → asks due o ≡ ((j == o.edge) && (is_offer edges o && (not (waits d o.kind) || has dep o.edge)))
  of_edges lt o = offers o ∙ ap (λ t. if t then ((j == o.edge) && (is_offer edges o && (not (waits d o.kind) || has dep o.edge))) else ((half_at edges j == o.edge) && (waits d o.kind && has near o.edge))) (lt_is j (length edges) lt)

  of_halves : length edges ≤ j → (o : Offer) → asks due o ≡ ((half_at edges j == o.edge) && (waits d o.kind && has near o.edge))
  of_halves ge o = offers o ∙ ap (λ t. if t then ((j == o.edge) && (is_offer edges o && (not (waits d o.kind) || has dep o.edge))) else ((half_at edges j == o.edge) && (waits d o.kind && has near o.edge))) (ge_is j (length edges) ge)

  abbrev Next : Bool → Type 0
  Next t = Keeps d edges starts (shown ++ (j, (t && is_free_at edges j) || accepted_of due first second) ∷ []) (run ++ asked_of due first second) (if t then set near j true else near) (if t then dep else set dep (half_at edges j) true)

  -- a link is met, of an edge or of a half
  pub step : Keeps d edges starts (shown ++ (j, is_free_link edges j || accepted_of due first second) ∷ []) (run ++ asked_of due first second) (near_after edges j near) (dep_after edges j dep)
  step = ⊎_elim
      (λ lt. subst Next (sym (lt_is j (length edges) lt)) (edge_step d edges starts shown run near dep h j due first second link_due lt (of_edges lt)))
      (λ ge. subst Next (sym (ge_is j (length edges) ge)) (half_step d edges starts shown run near dep h j due first second link_due ge (of_halves ge)))
      (cases_lt j (length edges))

  -- what is offered there is due
  pub all_due : (o : Offer) → asks due o ≡ true → IsDue d edges starts run o
  all_due o a = ⊎_elim
      (λ lt. edge_due d edges starts shown run near dep h j due first second link_due lt (of_edges lt) o a)
      (λ ge. half_due d edges starts shown run near dep h j due first second link_due ge (of_halves ge) o a)
      (cases_lt j (length edges))
