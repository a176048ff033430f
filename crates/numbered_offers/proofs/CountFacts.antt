-- Counts of open premises as links are met.
use Rattle.std.proofs.Common.{◌≡◌, ℕ, ◌+◌, ◌-◌, ◌<◌, ◌≤◌, Bool, true, false, ◌&&◌, ◌||◌, ◌==◌, not, nat_lt, List, length, set, replicate, ⊎_elim, refl, sym, subst, ap, ◌∙◌, arith, true≢false}
use Rattle.std.proofs.lemmas.Bool.{eq-eqb, cases_lt}
use Rattle.std.proofs.lemmas.Bool.Decides.{nat_tests}
use Rattle.std.proofs.lemmas.List.{length-set, length-replicate, get_or-replicate, get_or-set_same, get_or-set_other}
use Rattle.std.specs.Bool.{if◌then◌else◌}
use Rattle.numbered_graph.specs.declared.direction.Direction.{Direction}
use Rattle.numbered_graph.specs.declared.direction.Direction.TheVariants.{Forward, Reverse}
use Rattle.numbered_graph.specs.Sets.{has}
use Rattle.numbered_graph.specs.Walks as walks
use Rattle.numbered_graph.specs.Walks.{Shown, shown_links}
use Rattle.numbered_offers.specs.declared.edge.Edge.{Edge}
use Rattle.numbered_offers.specs.declared.offer.Offer.{Offer}
use Rattle.numbered_offers.specs.declared.offer.OfferKind.{OfferKind}
use Rattle.numbered_offers.specs.declared.offer.OfferKind.TheVariants.{Unsplit, Required, Optional}
use Rattle.numbered_offers.specs.Counts.{AreCounted, AreOpen, count_at, open_by, optional_premises, lowered, whole_after, half_after, optional_after, flag_for, is_due_at}
use Rattle.numbered_offers.specs.Edges.{is_offer, waits}
use Rattle.numbered_offers.specs.Graphs.{all_links}
use Rattle.numbered_offers.specs.Keeping.{Keeps, half_at, is_asked_at, near_after, dep_after}
use Rattle.numbered_offers.specs.Runs.{Run}
use Rattle.numbered_offers.proofs.EndFacts.{no_flag}
use Rattle.numbered_offers.proofs.FlagFacts.{true_or_false}
use Rattle.numbered_offers.proofs.LinkFacts.{half_small}
use Rattle.numbered_offers.proofs.OfferFacts.{same_edge}

lt_is : (a b : ℕ) → a < b → nat_lt a b ≡ true
lt_is a b h = grind (arith, nat_tests, h)

ge_is : (a b : ℕ) → b ≤ a → nat_lt a b ≡ false
ge_is a b h = grind (arith, nat_tests, h)

-- a flag that is set lowers its count
lower_is : (flags : List Bool) (counts : List ℕ) (i e : ℕ) (r : ℕ → ℕ) → i < length flags → i < length counts → has flags i ≡ false → count_at counts i ≡ open_by (has flags i) + r i → count_at counts e ≡ open_by (has flags e) + r e → count_at (lowered i counts) e ≡ open_by (has (set flags i true) e) + r e
lower_is flags counts i e r lf lc off at_i at_e = ⊎_elim
    (λ same. subst (λ x. count_at (lowered i counts) x ≡ open_by (has (set flags i true) x) + r x) (same_edge i e same) now)
    (λ other. still (λ s. true≢false (sym (eq-eqb i e (sym s)) ∙ other)))
    (true_or_false (i == e))
  where
    now : count_at (lowered i counts) i ≡ open_by (has (set flags i true) i) + r i
    now =
        let was : count_at counts i ≡ 1 + r i = at_i ∙ ap (λ b. open_by b + r i) off in
        let less : count_at counts i - 1 ≡ 0 + r i = omega arith in
        get_or-set_same counts i (count_at counts i - 1) 0 lc ∙ less ∙ sym (ap (λ b. open_by b + r i) (get_or-set_same flags i true false lf))

    still : (e ≡ i → ⊥) → count_at (lowered i counts) e ≡ open_by (has (set flags i true) e) + r e
    still apart = get_or-set_other counts i e (count_at counts i - 1) 0 apart ∙ at_e ∙ sym (ap (λ b. open_by b + r e) (get_or-set_other flags i e true false apart))

zero_of : (p : Bool) (c : ℕ) → c ≡ open_by p → (c == 0) ≡ p
zero_of true c h = ap (λ x. x == 0) h
zero_of false c h = ap (λ x. x == 0) h

guarded : (b p x y : Bool) → (b ≡ true → x ≡ y) → (b && (p && x)) ≡ (b && (p && y))
guarded true p x y h = ap (λ t. p && t) (h refl)
guarded false p x y h = refl

guarded_both : (b w x y : Bool) → (b ≡ true → w ≡ true → x ≡ y) → (b && (w && x)) ≡ (b && (w && y))
guarded_both true true x y h = h refl refl
guarded_both true false x y h = refl
guarded_both false w x y h = refl

-- an offer that does not wait is ready
flag_is : (d : Direction) (k : OfferKind) (dep : Bool) → flag_for k true (not (waits d Optional) || dep) ≡ (not (waits d k) || dep)
flag_is Forward Unsplit dep = refl
flag_is Forward Required dep = refl
flag_is Forward Optional dep = refl
flag_is Reverse Unsplit dep = refl
flag_is Reverse Required dep = refl
flag_is Reverse Optional dep = refl

-- before the first link
pub counted_start : (d : Direction) (edges : List Edge) (whole optional : List ℕ) → whole ≡ replicate (length edges) 1 → optional ≡ replicate (length edges) (optional_premises d) → AreCounted d edges (replicate (length edges) false) (replicate (length edges) false) whole optional
counted_start d edges whole optional is_whole is_optional = rw (is_whole, is_optional) (record {
  whole_sized = length-replicate (length edges) 1;
  optional_sized = length-replicate (length edges) (optional_premises d);
  whole_is = λ e lt. get_or-replicate (length edges) e 1 0 lt ∙ sym (ap open_by (no_flag (length edges) e));
  optional_is = λ e lt. get_or-replicate (length edges) e (optional_premises d) 0 lt ∙ most d ∙ sym (ap (λ b. open_by b + open_by (not (waits d Optional) || b)) (no_flag (length edges) e));
})
  where
    most : (d : Direction) → optional_premises d ≡ open_by false + open_by (not (waits d Optional) || false)
    most Forward = refl
    most Reverse = refl

module _ (d : Direction) (edges : List Edge) (starts : List ℕ) (shown : Shown) (run : Run) (near dep : List Bool) (h : Keeps d edges starts shown run near dep) (number : ℕ) (due : walks.IsDue d (all_links edges) starts shown number) where
  near_not : number < length edges → has near number ≡ false
  near_not lt = ⊎_elim (λ b. absurd (due.new ((h.near_is number lt).0 b))) (λ b. b) (true_or_false (has near number))

  dep_not : length edges ≤ number → has dep (half_at edges number) ≡ false
  dep_not ge = ⊎_elim (λ b. absurd (due.new ((h.dep_is number ge due.within).0 b))) (λ b. b) (true_or_false (has dep (half_at edges number)))

  small_half : length edges ≤ number → half_at edges number < length edges
  small_half ge = half_small edges number ge due.within

  module _ (whole optional : List ℕ) (k : AreCounted d edges near dep whole optional) where
    whole_one : number < length edges → count_at whole number ≡ 1
    whole_one lt = k.whole_is number lt ∙ ap open_by (near_not lt)

    optional_more : number < length edges → count_at optional number ≡ 1 + open_by (not (waits d Optional) || has dep number)
    optional_more lt = k.optional_is number lt ∙ ap (λ b. open_by b + open_by (not (waits d Optional) || has dep number)) (near_not lt)

    half_more : length edges ≤ number → waits d Optional ≡ true → count_at optional (half_at edges number) ≡ open_by (has near (half_at edges number)) + 1
    half_more ge w =
        let e = half_at edges number in
        k.optional_is e (small_half ge) ∙ ap (λ b. open_by (has near e) + open_by (not b || has dep e)) w ∙ ap (λ b. open_by (has near e) + open_by b) (dep_not ge)

    -- what the link lowers is open
    pub is_open : AreOpen d edges number whole optional
    is_open = record {
      edge_whole = λ lt. let one = whole_one lt in omega arith;
      edge_optional = λ lt. let more = optional_more lt in omega arith;
      half = λ ge w. let more = half_more ge w in omega arith;
    }

    edge_counted : number < length edges → AreCounted d edges (set near number true) dep (lowered number whole) (lowered number optional)
    edge_counted lt =
        let in_near : number < length near = let s = h.near_sized in omega arith in
        let in_whole : number < length whole = let s = k.whole_sized in omega arith in
        let in_optional : number < length optional = let s = k.optional_sized in omega arith in
        record {
          whole_sized = length-set whole number _ ∙ k.whole_sized;
          optional_sized = length-set optional number _ ∙ k.optional_sized;
          whole_is = λ e small. let at_i = k.whole_is number lt in let at_e = k.whole_is e small in let now = lower_is near whole number e (λ x. 0) in_near in_whole (near_not lt) (omega arith) (omega arith) in omega arith;
          optional_is = λ e small. lower_is near optional number e (λ x. open_by (not (waits d Optional) || has dep x)) in_near in_optional (near_not lt) (k.optional_is number lt) (k.optional_is e small);
        }

    half_forward : length edges ≤ number → waits d Optional ≡ true → (e : ℕ) → e < length edges → count_at (lowered (half_at edges number) optional) e ≡ open_by (has near e) + open_by (not (waits d Optional) || has (set dep (half_at edges number) true) e)
    half_forward ge w e small =
        let i = half_at edges number in
        let in_dep : i < length dep = let s = h.dep_sized in let lt = small_half ge in omega arith in
        let in_optional : i < length optional = let s = k.optional_sized in let lt = small_half ge in omega arith in
        let at_i : count_at optional i ≡ open_by (has near i) + open_by (has dep i) = k.optional_is i (small_half ge) ∙ ap (λ b. open_by (has near i) + open_by (not b || has dep i)) w in
        let at_e : count_at optional e ≡ open_by (has near e) + open_by (has dep e) = k.optional_is e small ∙ ap (λ b. open_by (has near e) + open_by (not b || has dep e)) w in
        let now = lower_is dep optional i e (λ x. open_by (has near x)) in_dep in_optional (dep_not ge) (omega arith) (omega arith) in
        let turned : count_at (lowered i optional) e ≡ open_by (has near e) + open_by (has (set dep i true) e) = omega arith in
        turned ∙ sym (ap (λ b. open_by (has near e) + open_by (not b || has (set dep i true) e)) w)

    half_counted : (c : Direction) → c ≡ d → length edges ≤ number → AreCounted d edges near (set dep (half_at edges number) true) whole (half_after c edges number optional)
    half_counted Forward is ge = record {
      whole_sized = k.whole_sized;
      optional_sized = length-set optional (half_at edges number) _ ∙ k.optional_sized;
      whole_is = k.whole_is;
      optional_is = half_forward ge (sym (ap (λ x. waits x Optional) is));
    }
    half_counted Reverse is ge = record {
      whole_sized = k.whole_sized;
      optional_sized = k.optional_sized;
      whole_is = k.whole_is;
      optional_is = λ e small. k.optional_is e small ∙ ap (λ b. open_by (has near e) + open_by (not b || has dep e)) (sym (ap (λ x. waits x Optional) is)) ∙ sym (ap (λ b. open_by (has near e) + open_by (not b || has (set dep (half_at edges number) true) e)) (sym (ap (λ x. waits x Optional) is)));
    }

    abbrev After : Bool → Type 0
    After t = AreCounted d edges (if t then set near number true else near) (if t then dep else set dep (half_at edges number) true) (if t then lowered number whole else whole) (if t then lowered number optional else half_after d edges number optional)

    -- the counts once the link is met
    pub counted_after : AreCounted d edges (near_after edges number near) (dep_after edges number dep) (whole_after edges number whole) (optional_after d edges number optional)
    counted_after = ⊎_elim
        (λ lt. subst After (sym (lt_is number (length edges) lt)) (edge_counted lt))
        (λ ge. subst After (sym (ge_is number (length edges) ge)) (half_counted d refl ge))
        (cases_lt number (length edges))

    edge_due : number < length edges → (o : Offer) → ((number == o.edge) && (is_offer edges o && flag_for o.kind (count_at (lowered number whole) number == 0) (count_at (lowered number optional) number == 0))) ≡ ((number == o.edge) && (is_offer edges o && (not (waits d o.kind) || has dep o.edge)))
    edge_due lt o =
        let in_whole : number < length whole = let s = k.whole_sized in omega arith in
        let in_optional : number < length optional = let s = k.optional_sized in omega arith in
        let one = whole_one lt in
        let more = optional_more lt in
        let w : (count_at (lowered number whole) number == 0) ≡ true = eq-eqb _ 0 (get_or-set_same whole number (count_at whole number - 1) 0 in_whole ∙ omega arith) in
        let p : (count_at (lowered number optional) number == 0) ≡ (not (waits d Optional) || has dep number) = zero_of _ _ (get_or-set_same optional number (count_at optional number - 1) 0 in_optional ∙ omega arith) in
        guarded (number == o.edge) (is_offer edges o) _ _ (λ b. ap (λ x. flag_for o.kind x (count_at (lowered number optional) number == 0)) w ∙ ap (flag_for o.kind true) p ∙ flag_is d o.kind (has dep number) ∙ ap (λ x. not (waits d o.kind) || has dep x) (same_edge number o.edge b))

    half_due : (c : Direction) → c ≡ d → length edges ≤ number → (o : Offer) → ((half_at edges number == o.edge) && (waits d o.kind && (count_at (half_after c edges number optional) (half_at edges number) == 0))) ≡ ((half_at edges number == o.edge) && (waits d o.kind && has near o.edge))
    half_due Forward is ge o =
        let e = half_at edges number in
        let in_optional : e < length optional = let s = k.optional_sized in let lt = small_half ge in omega arith in
        let more = half_more ge (sym (ap (λ x. waits x Optional) is)) in
        guarded_both (e == o.edge) (waits d o.kind) _ _ (λ b w. zero_of (has near e) _ (get_or-set_same optional e (count_at optional e - 1) 0 in_optional ∙ omega arith) ∙ ap (has near) (same_edge e o.edge b))
    half_due Reverse is ge o = guarded_both (half_at edges number == o.edge) (waits d o.kind) _ _ (λ b w. absurd (true≢false (sym w ∙ ap (λ x. waits x o.kind) (sym is))))

    abbrev Same : Offer → Bool → Type 0
    Same o t =
        (if t then ((number == o.edge) && (is_offer edges o && flag_for o.kind (count_at (if t then lowered number whole else whole) number == 0) (count_at (if t then lowered number optional else half_after d edges number optional) number == 0))) else ((half_at edges number == o.edge) && (waits d o.kind && (count_at (if t then lowered number optional else half_after d edges number optional) (half_at edges number) == 0))))
        ≡ (if t then ((number == o.edge) && (is_offer edges o && (not (waits d o.kind) || has dep o.edge))) else ((half_at edges number == o.edge) && (waits d o.kind && has near o.edge)))

    -- the counts that come to zero are those of the offers that become due
    pub due_is : (o : Offer) → is_due_at d edges (whole_after edges number whole) (optional_after d edges number optional) number o ≡ is_asked_at d edges near dep number o
    due_is o = ⊎_elim
        (λ lt. subst (Same o) (sym (lt_is number (length edges) lt)) (edge_due lt o))
        (λ ge. subst (Same o) (sym (ge_is number (length edges) ge)) (half_due d refl ge o))
        (cases_lt number (length edges))
