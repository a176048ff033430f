-- What is offered at once: its edge, its answers, and that a run goes on with it.
use Rattle.std.proofs.Common.{◌≡◌, ℕ, Bool, true, false, ◌&&◌, ◌||◌, ◌==◌, List, [], ◌∷◌, ◌++◌, Option, Some, None, ◌⊎◌, ⊎_elim, append_assoc, append-nil, refl, sym, subst, ap, ◌∙◌, true≢false}
use Rattle.std.proofs.lemmas.Bool.{and_parts, eq-eqb, or_cases, or_left, or_right}
use Rattle.numbered_graph.specs.declared.direction.Direction.{Direction}
use Rattle.numbered_offers.specs.declared.edge.Edge.{Edge}
use Rattle.numbered_offers.specs.declared.offer.Offer.{Offer}
use Rattle.numbered_offers.specs.declared.offer.OfferKind.TheVariants.{Required, Optional}
use Rattle.numbered_offers.specs.declared.due.Due.{Due}
use Rattle.numbered_offers.specs.declared.due.Due.TheVariants.{One, Halves}
use Rattle.numbered_offers.specs.Edges.{is_offer, kind_number, same_offer, required_half, optional_half}
use Rattle.numbered_offers.specs.Runs.{Run, is_asked, is_accepted_edge, IsDue, IsRun, goes_on}
use Rattle.numbered_offers.specs.Dues.{asks, asked_of, accepted_of}
use Rattle.numbered_offers.proofs.OfferFacts.{same_edge}
use Rattle.numbered_offers.proofs.RunFacts.{asked_more, reached_still}
use Rattle.numbered_offers.proofs.FlagFacts.{or_false}

and_false : (b : Bool) → (b && false) ≡ false
and_false true = refl
and_false false = refl

pub same_itself : (o : Offer) → same_offer o o ≡ true
same_itself o = ap (λ b. b && (kind_number o.kind == kind_number o.kind)) (eq-eqb o.edge o.edge refl) ∙ eq-eqb (kind_number o.kind) (kind_number o.kind) refl

-- what is asked at once stands in the run
pub asked_is : (due : Option Due) (first second : Bool) (o : Offer) → is_asked (asked_of due first second) o ≡ asks due o
asked_is None first second o = refl
asked_is (Some (One p)) first second o = or_false (same_offer p o)
asked_is (Some (Halves e)) first second o = ap (λ b. same_offer (required_half e) o || b) (or_false (same_offer (optional_half e) o))

-- somebody is asked where somebody accepts
pub someone : (due : Option Due) (first second : Bool) → accepted_of due first second ≡ true → (o : Offer) × (asks due o ≡ true)
someone None first second h = absurd (true≢false (sym h))
someone (Some (One p)) first second h = (p, same_itself p)
someone (Some (Halves e)) first second h = (required_half e, or_left (same_offer (required_half e) (required_half e)) (same_offer (optional_half e) (required_half e)) (same_itself (required_half e)))

module _ (e : ℕ) where
  abbrev OfEdge : Option Due → Type 0
  OfEdge due = (o : Offer) → asks due o ≡ true → o.edge ≡ e

  one_edge : (p : Offer) → OfEdge (Some (One p)) → p.edge ≡ e
  one_edge p only = only p (same_itself p)

  halves_edge : (x : ℕ) → OfEdge (Some (Halves x)) → x ≡ e
  halves_edge x only = only (required_half x) (or_left (same_offer (required_half x) (required_half x)) (same_offer (optional_half x) (required_half x)) (same_itself (required_half x)))

  here : (x : ℕ) (b : Bool) → x ≡ e → b ≡ true → ((x == e) && b) ≡ true
  here x b same h = ap (λ t. t && b) (eq-eqb x e same) ∙ h

  pub accepted_new : (due : Option Due) (first second : Bool) → OfEdge due → accepted_of due first second ≡ true → is_accepted_edge (asked_of due first second) e ≡ true
  accepted_new None first second only h = absurd (true≢false (sym h))
  accepted_new (Some (One p)) first second only h = or_left ((p.edge == e) && first) false (here p.edge first (one_edge p only) h)
  accepted_new (Some (Halves x)) first second only h = ⊎_elim
      (λ f. or_left ((x == e) && first) (((x == e) && second) || false) (here x first (halves_edge x only) f))
      (λ s. or_right ((x == e) && first) (((x == e) && second) || false) (or_left ((x == e) && second) false (here x second (halves_edge x only) s)))
      (or_cases first second h)

  pub accepted_only : (due : Option Due) (first second : Bool) (x : ℕ) → OfEdge due → is_accepted_edge (asked_of due first second) x ≡ true → (e ≡ x) × (accepted_of due first second ≡ true)
  accepted_only None first second x only h = absurd (true≢false (sym h))
  accepted_only (Some (One p)) first second x only h = let k = and_parts (p.edge == x) first (sym (or_false ((p.edge == x) && first)) ∙ h) in (sym (one_edge p only) ∙ same_edge p.edge x k.0, k.1)
  accepted_only (Some (Halves y)) first second x only h = ⊎_elim
      (λ f. let k = and_parts (y == x) first f in (sym (halves_edge y only) ∙ same_edge y x k.0, or_left first second k.1))
      (λ s. let k = and_parts (y == x) second (sym (or_false ((y == x) && second)) ∙ s) in (sym (halves_edge y only) ∙ same_edge y x k.0, or_right first second k.1))
      (or_cases ((y == x) && first) (((y == x) && second) || false) h)

not_required : (o : Offer) → o.kind ≡ Optional → same_offer o (required_half o.edge) ≡ true → ⊥
not_required o is h = true≢false (sym (and_parts (o.edge == o.edge) (kind_number o.kind == 1) h).1 ∙ ap (λ k. kind_number k == 1) is)

required_is_not : Required ≡ Optional → ⊥
required_is_not h = true≢false (ap (λ k. kind_number k == 1) h)

module _ (d : Direction) (edges : List Edge) (starts : List ℕ) (run : Run) where
  due_still : (more : Run) (o : Offer) → IsDue d edges starts run o → IsDue d edges starts (run ++ more) o
  due_still more o h = record { offered = h.offered; near = reached_still d edges starts run more _ h.near; dep = λ w. reached_still d edges starts run more _ (h.dep w) }

  pub made :
      (due : Option Due) (first second : Bool)
      → IsRun d edges starts run
      → ((o : Offer) → asks due o ≡ true → IsDue d edges starts run o)
      → ((o : Offer) → asks due o ≡ true → is_asked run o ≡ false)
      → ((o : Offer) → asks due o ≡ true → o.kind ≡ Optional → is_offer edges (required_half o.edge) ≡ true → (is_asked run (required_half o.edge) ≡ true) ⊎ (asks due (required_half o.edge) ≡ true))
      → IsRun d edges starts (run ++ asked_of due first second)
  made None first second legal is_due new before = subst (IsRun d edges starts) (sym (append-nil run)) legal
  made (Some (One p)) first second legal is_due new before = goes_on run p first legal (record {
    due = is_due p (same_itself p);
    new = new p (same_itself p);
    required_first = λ optional there. ⊎_elim (λ h. h) (λ h. absurd (not_required p optional h)) (before p (same_itself p) optional there);
  })
  made (Some (Halves e)) first second legal is_due new before =
      let r = required_half e in
      let o = optional_half e in
      let of_r : asks (Some (Halves e)) r ≡ true = or_left (same_offer r r) (same_offer o r) (same_itself r) in
      let of_o : asks (Some (Halves e)) o ≡ true = or_right (same_offer r o) (same_offer o o) (same_itself o) in
      let one = goes_on run r first legal (record { due = is_due r of_r; new = new r of_r; required_first = λ optional there. absurd (required_is_not optional) }) in
      subst (IsRun d edges starts) (append_assoc run ((r, first) ∷ []) ((o, second) ∷ []))
      (goes_on (run ++ (r, first) ∷ []) o second one (record {
        due = due_still ((r, first) ∷ []) o (is_due o of_o);
        new = asked_more run ((r, first) ∷ []) o ∙ ap (λ b. b || (same_offer r o || false)) (new o of_o) ∙ ap (λ b. b || false) (and_false (e == e));
        required_first = λ optional there. asked_more run ((r, first) ∷ []) r ∙ or_right (is_asked run r) (same_offer r r || false) (or_left (same_offer r r) false (same_itself r));
      }))
