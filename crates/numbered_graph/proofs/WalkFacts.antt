-- The steps of a walk: a node is included, a link is taken, a node is left, a link is answered.
use Rattle.std.proofs.Common.{◌≡◌, ◌≢◌, ℕ, zero, suc, ◌+◌, ◌-◌, ◌<◌, ◌≤◌, Bool, true, false, cond, ◌&&◌, ◌||◌, eqb, None, Some, List, [], ◌∷◌, ◌++◌, length, get_or, set, replicate, refl, sym, subst, ap, ◌∙◌, ◌⊎◌, inl, inr, ⊎_elim, ◌↔◌, Contains, All, count_by, arith, true≢false}
use Rattle.std.proofs.lemmas.Bool.{cases_eq, cases_lt, eq-eqb, eqb-true, or_cases, or_left, or_right, and_parts, and_from, cond_both}
use Rattle.std.proofs.lemmas.List.{get_or-set_same, get_or-set_other, length-set, length_push, length-append, get_or_append_left, get_or_default, append-nil, map-append, length-map, length-replicate, get_or-replicate}
use Rattle.std.proofs.lemmas.List.Elements.{All-push, All-weaker, Contains-push, Contains-append_left, Contains-push_cases, All-contains, Contains-get_or}
use Rattle.std.proofs.lemmas.List.Quantifiers.{all_pairs_push}
use Rattle.std.proofs.lemmas.List.Folds.{list_any-append}
use Rattle.std.proofs.lemmas.List.Sums.{count_by-le-length}
use Rattle.list_facts.proofs.Membership.{Contains-map_cases}
use Rattle.list_facts.proofs.Quantifiers.{list_any_cases, list_any-from_Contains}
use Rattle.numbered_graph.specs.declared.link.Link.{Link}
use Rattle.numbered_graph.specs.declared.direction.Direction.{Direction}
use Rattle.numbered_graph.specs.Links.{near_at, far_at}
use Rattle.numbered_graph.specs.Chains.{IsNextLink}
use Rattle.numbered_graph.specs.Paths.{any_link, IsReached}
use Rattle.numbered_graph.specs.Sets.{has}
use Rattle.numbered_graph.specs.Walks.{Shown, WalkValue, shown_links, taken_links, opened_of, is_accepted, IsIncluded, IsShowing, IsDue, AreListed, AreTaken, AreFollowed}
use Rattle.numbered_graph.proofs.SetFacts.{has-set, has-set_elim, count_by-set_new, count_by-lt, length-le_from_pairs}
use Rattle.numbered_graph.proofs.PathFacts.{IsReached-start, IsReached-more, IsReached-weaker, IsReached-closed}

-- a node that was not reached joins the list
pub AreListed-more : {n : ℕ} {reached : List Bool} {order : List ℕ} → AreListed n reached order → (v : ℕ) → v < n → has reached v ≡ false → AreListed n (set reached v true) (order ++ v ∷ [])
AreListed-more {n} {reached} {order} h v lt new =
    let within : v < length reached = subst (λ m. v < m) (sym h.sized) lt in
    record {
      sized = length-set reached v true ∙ h.sized;
      counted = length_push order v ∙ ap (λ m. m + 1) h.counted ∙ sym (count_by-set_new reached v within new);
      each = All-push (λ u. has (set reached v true) u ≡ true) order v (All-weaker (λ u. has reached u ≡ true) (λ u. has (set reached v true) u ≡ true) (has-set reached v) order h.each) (get_or-set_same reached v true false within);
      all = λ u set_now. has-set_elim (λ w. Contains (order ++ v ∷ []) w) reached v u (Contains-push order v) (λ before. Contains-append_left order (v ∷ []) u (h.all u before)) set_now;
    }

-- no node was reached
has-none : (n v : ℕ) → has (replicate n false) v ≡ true → ⊥
has-none zero v h = true≢false (sym h)
has-none (suc n) zero h = true≢false (sym h)
has-none (suc n) (suc v) h = has-none n v h

counted-none : (n : ℕ) → 0 ≡ count_by (λ (b : Bool). b) (replicate n false)
counted-none zero = refl
counted-none (suc n) = counted-none n

pub AreListed-none : (n : ℕ) → AreListed n (replicate n false) []
AreListed-none n = record {
  sized = length-replicate n false;
  counted = counted-none n;
  each = λ k d lt. absurd (omega arith);
  all = λ v h. absurd (has-none n v h);
}

pub AreFollowed-none : (d : Direction) (links : List Link) (n : ℕ) → AreFollowed d links [] [] (replicate n false)
AreFollowed-none d links n = record {
  begins = λ v i. let lt = i.1 in absurd (omega arith);
  leads = λ v h. absurd (has-none n v h);
  closed = λ j lt h. absurd (true≢false (sym h));
}

-- there is room for a node that was not reached
pub length-listed-lt : {n : ℕ} {reached : List Bool} {order : List ℕ} → AreListed n reached order → (v : ℕ) → v < n → has reached v ≡ false → length order < n
length-listed-lt {n} {reached} {order} h v lt new =
    let sized = h.sized in
    let counted = h.counted in
    let fewer = count_by-lt reached v (omega arith) new in
    omega arith

pub length-listed-le : {n : ℕ} {reached : List Bool} {order : List ℕ} → AreListed n reached order → length order ≤ n
length-listed-le {n} {reached} {order} h =
    let sized = h.sized in
    let counted = h.counted in
    let most = count_by-le-length (λ (b : Bool). b) reached in
    omega arith

module _ {d : Direction} {n : ℕ} {links : List Link} {reached : List Bool} {order cursors : List ℕ} {opened : ℕ} {taken : List ℕ} (h : AreTaken d n links reached order cursors opened taken) where
  -- the node that is looked at has no link left
  pub AreTaken-passed : opened < length order → length links ≤ get_or cursors (get_or order opened 0) 0 → AreTaken d n links reached order cursors (opened + 1) taken
  AreTaken-passed lt done = record {
    sized = h.sized;
    within = omega arith;
    follows = h.follows;
    leaves = h.leaves;
    each = h.each;
    once = h.once;
    finished = λ k below. ⊎_elim (λ e. subst (λ i. length links ≤ get_or cursors (get_or order i 0) 0) (sym e) done) (λ ne. h.finished k (omega arith)) (cases_eq k opened);
  }

  -- more nodes are reached and listed
  pub AreTaken-wider : (wider : List Bool) (rest : List ℕ) → ((v : ℕ) → has reached v ≡ true → has wider v ≡ true) → AreTaken d n links wider (order ++ rest) cursors opened taken
  AreTaken-wider wider rest more =
      let size = length-append order rest in
      let within = h.within in
      record {
        sized = h.sized;
        within = omega arith;
        follows = h.follows;
        finished = λ k below. let lt : k < length order = omega arith in subst (λ v. length links ≤ get_or cursors v 0) (sym (get_or_append_left order rest 0 k lt)) (h.finished k below);
        leaves = λ j lt before. more (near_at d links j) (h.leaves j lt before);
        each = h.each;
        once = h.once;
      }

  -- what was taken is no more than there are links
  pub length-taken-le : length taken ≤ length links
  length-taken-le = length-le_from_pairs taken (length links) h.once (λ j inside. ((h.each j).0 inside).0)

  -- the link at the cursor of a listed node is taken
  module _ (v c next : ℕ) (within : v < n) (at : c ≡ get_or cursors v 0) (lt : c < length links) (is_next : IsNextLink d links (near_at d links c) (suc c) next) where
    near_is : near_at d links c ≡ v
    near_is = subst (λ i. near_at d links i ≡ v) (sym at) (h.follows v within (subst (λ i. i < length links) at lt))

    new : Contains taken c → ⊥
    new inside = let before = ((h.each c).0 inside).1 in let same = ap (λ u. get_or cursors u 0) near_is ∙ sym at in omega arith

    in_cursors : v < length cursors
    in_cursors = let sized = h.sized in omega arith

    cursor_there : get_or (set cursors v next) v 0 ≡ next
    cursor_there = get_or-set_same cursors v next 0 in_cursors

    -- what is taken up to the new cursors
    forth : (j : ℕ) → Contains (taken ++ c ∷ []) j → (j < length links) × (j < get_or (set cursors v next) (near_at d links j) 0)
    forth j inside = ⊎_elim (λ i. old j ((h.each j).0 i)) (λ e. subst (λ m. (m < length links) × (m < get_or (set cursors v next) (near_at d links m) 0)) e here) (Contains-push_cases taken c j inside)
      where
        here : (c < length links) × (c < get_or (set cursors v next) (near_at d links c) 0)
        here = (lt, subst (λ u. c < get_or (set cursors v next) u 0) (sym near_is) (let from_here = is_next.from_here in let there = cursor_there in omega arith))

        old : (i : ℕ) → (i < length links) × (i < get_or cursors (near_at d links i) 0) → (i < length links) × (i < get_or (set cursors v next) (near_at d links i) 0)
        old i k = (k.0, ⊎_elim (λ e. subst (λ u. i < get_or (set cursors v next) u 0) (sym e) (let below = subst (λ u. i < get_or cursors u 0) e k.1 in let from_here = is_next.from_here in let there = cursor_there in omega arith)) (λ ne. subst (λ m. i < m) (sym (get_or-set_other cursors v (near_at d links i) next 0 ne)) k.1) (cases_eq (near_at d links i) v))

    back : (j : ℕ) → j < length links → j < get_or (set cursors v next) (near_at d links j) 0 → Contains (taken ++ c ∷ []) j
    back j small before = ⊎_elim (λ e. at_node e (cases_order_of j)) (λ ne. Contains-append_left taken (c ∷ []) j ((h.each j).1 (small, subst (λ m. j < m) (get_or-set_other cursors v (near_at d links j) next 0 ne) before))) (cases_eq (near_at d links j) v)
      where
        cases_order_of : (i : ℕ) → (i < c) ⊎ ((i ≡ c) ⊎ (c < i))
        cases_order_of i = ⊎_elim (λ l. inl l) (λ g. inr (⊎_elim (λ e. inl e) (λ ne. inr (omega arith)) (cases_eq i c))) (cases_lt i c)

        at_node : near_at d links j ≡ v → (j < c) ⊎ ((j ≡ c) ⊎ (c < j)) → Contains (taken ++ c ∷ []) j
        at_node e = λ o. ⊎_elim (λ l. Contains-append_left taken (c ∷ []) j ((h.each j).1 (small, subst (λ u. j < get_or cursors u 0) (sym e) (omega arith)))) (λ o2. ⊎_elim (λ same. subst (λ m. Contains (taken ++ c ∷ []) m) (sym same) (Contains-push taken c)) (λ g. absurd (is_next.none_between j (omega arith) (let there = cursor_there in let b = subst (λ u. j < get_or (set cursors v next) u 0) e before in omega arith) (e ∙ sym near_is))) o2) o

    pub AreTaken-more : has reached v ≡ true → AreTaken d n links reached order (set cursors v next) opened (taken ++ c ∷ [])
    AreTaken-more is_reached = record {
      sized = length-set cursors v next ∙ h.sized;
      within = h.within;
      follows = λ u below. ⊎_elim (λ e. subst (λ w. get_or (set cursors v next) w 0 < length links → near_at d links (get_or (set cursors v next) w 0) ≡ w) (sym e) (subst (λ m. m < length links → near_at d links m ≡ v) (sym cursor_there) (λ small. is_next.follows small ∙ near_is))) (λ ne. subst (λ m. m < length links → near_at d links m ≡ u) (sym (get_or-set_other cursors v u next 0 ne)) (h.follows u below)) (cases_eq u v);
      finished = λ k below. ⊎_elim (λ e. absurd (let done = subst (λ u. length links ≤ get_or cursors u 0) e (h.finished k below) in omega arith)) (λ ne. subst (λ m. length links ≤ m) (sym (get_or-set_other cursors v (get_or order k 0) next 0 ne)) (h.finished k below)) (cases_eq (get_or order k 0) v);
      leaves = λ j small before. ⊎_elim (λ e. subst (λ u. has reached u ≡ true) (sym e) is_reached) (λ ne. h.leaves j small (subst (λ m. j < m) (get_or-set_other cursors v (near_at d links j) next 0 ne) before)) (cases_eq (near_at d links j) v);
      each = λ j. (forth j, λ k. back j k.0 k.1);
      once = all_pairs_push (λ i j. i ≢ j) taken c h.once (λ k d lt same. new (subst (λ m. Contains taken m) same (Contains-get_or taken k d lt)));
    }

    pub not_taken : Contains taken c → ⊥
    not_taken = new

is_accepted-push : (shown : Shown) (c : ℕ) (b : Bool) (j : ℕ) → is_accepted (shown ++ (c, b) ∷ []) j ≡ (is_accepted shown j || ((eqb c j && b) || false))
is_accepted-push shown c b j = list_any-append (λ (s : ℕ × Bool). eqb s.0 j && s.1) shown ((c, b) ∷ [])

-- what was accepted before still is
is_accepted-kept : (shown : Shown) (c : ℕ) (b : Bool) (j : ℕ) → is_accepted shown j ≡ true → is_accepted (shown ++ (c, b) ∷ []) j ≡ true
is_accepted-kept shown c b j h = is_accepted-push shown c b j ∙ or_left (is_accepted shown j) ((eqb c j && b) || false) h

is_accepted-new : (shown : Shown) (c : ℕ) → is_accepted (shown ++ (c, true) ∷ []) c ≡ true
is_accepted-new shown c = is_accepted-push shown c true c ∙ or_right (is_accepted shown c) ((eqb c c && true) || false) (or_left (eqb c c && true) false (and_from (eqb c c) true (eq-eqb c c refl) refl))

-- what is accepted was accepted before, or is the new link
is_accepted_cases : (shown : Shown) (c : ℕ) (b : Bool) (j : ℕ) → is_accepted (shown ++ (c, b) ∷ []) j ≡ true → (is_accepted shown j ≡ true) ⊎ ((c ≡ j) × (b ≡ true))
is_accepted_cases shown c b j h =
    ⊎_elim (λ e. inl e) (λ r. ⊎_elim (λ p. let q = and_parts (eqb c j) b p in inr (eqb-true c j q.0, q.1)) (λ f. absurd (true≢false (sym f))) (or_cases (eqb c j && b) false r)) (or_cases (is_accepted shown j) ((eqb c j && b) || false) (sym (is_accepted-push shown c b j) ∙ h))

module _ {d : Direction} {links : List Link} {starts : List ℕ} {shown : Shown} {reached : List Bool} (h : AreFollowed d links starts shown reached) where
  -- after one answer more what was included still is
  kept : (c : ℕ) (b : Bool) (v : ℕ) → IsIncluded d links starts shown v → IsIncluded d links starts (shown ++ (c, b) ∷ []) v
  kept c b v = IsReached-weaker d links (is_accepted shown) starts (is_accepted (shown ++ (c, b) ∷ [])) (λ j lt e. is_accepted-kept shown c b j e) starts (λ u i. i) v

  -- a link is refused
  pub AreFollowed-refused : (c : ℕ) → AreFollowed d links starts (shown ++ (c, false) ∷ []) reached
  AreFollowed-refused c = record {
    begins = h.begins;
    leads = λ v set_now. kept c false v (h.leads v set_now);
    closed = λ j lt e. ⊎_elim (λ before. h.closed j lt before) (λ w. absurd (true≢false (sym w.1))) (is_accepted_cases shown c false j e);
  }

  -- a link of a reached node is accepted
  pub AreFollowed-accepted : (c : ℕ) → c < length links → has reached (near_at d links c) ≡ true → far_at d links c < length reached → AreFollowed d links starts (shown ++ (c, true) ∷ []) (set reached (far_at d links c) true)
  AreFollowed-accepted c lt near_reached far_within =
      let more = has-set reached (far_at d links c) in
      record {
        begins = λ v i. more v (h.begins v i);
        leads = λ v set_now. has-set_elim (λ u. IsIncluded d links starts (shown ++ (c, true) ∷ []) u) reached (far_at d links c) v (IsReached-more d links (is_accepted (shown ++ (c, true) ∷ [])) starts c lt (is_accepted-new shown c) (kept c true (near_at d links c) (h.leads (near_at d links c) near_reached))) (λ before. kept c true v (h.leads v before)) set_now;
        closed = λ j small e. ⊎_elim (λ before. more (far_at d links j) (h.closed j small before)) (λ w. subst (λ i. has (set reached (far_at d links c) true) (far_at d links i) ≡ true) w.0 (get_or-set_same reached (far_at d links c) true false far_within)) (is_accepted_cases shown c true j e);
      }

  -- what is included is reached
  pub reached_included : (v : ℕ) → IsIncluded d links starts shown v → has reached v ≡ true
  reached_included = IsReached-closed d links (is_accepted shown) starts (λ v. has reached v ≡ true) h.begins (λ j lt e near. h.closed j lt e)

  pub included_iff : (v : ℕ) → (has reached v ≡ true) ↔ IsIncluded d links starts shown v
  included_iff v = (h.leads v, reached_included v)

  module _ {n : ℕ} {order cursors : List ℕ} {opened : ℕ} (listed : AreListed n reached order) (taken : AreTaken d n links reached order cursors opened (shown_links shown)) where
    -- the link at the cursor of a listed node is due
    pub IsDue-at_cursor : (v c next : ℕ) → v < n → c ≡ get_or cursors v 0 → c < length links → IsNextLink d links (near_at d links c) (suc c) next → has reached v ≡ true → IsDue d links starts shown c
    IsDue-at_cursor v c next within at lt is_next is_reached = record {
      within = lt;
      included = h.leads (near_at d links c) (subst (λ u. has reached u ≡ true) (sym (near_is taken v c next within at lt is_next)) is_reached);
      new = not_taken taken v c next within at lt is_next;
    }

    -- no node is left
    pub IsShowing-at_end : length order ≤ opened → IsShowing d links starts shown
    IsShowing-at_end past = record {
      once = taken.once;
      each = λ j. (λ inside. let k = (taken.each j).0 inside in (k.0, h.leads (near_at d links j) (taken.leaves j k.0 k.1)), λ k. (taken.each j).1 (k.0, left j k.0 (listed.all (near_at d links j) (reached_included (near_at d links j) k.1))));
    }
      where
        left : (j : ℕ) → j < length links → Contains order (near_at d links j) → j < get_or cursors (near_at d links j) 0
        left j lt i =
            let place : get_or order i.0 0 ≡ near_at d links j = get_or_default order i.0 0 (near_at d links j) i.1 ∙ i.2 in
            let lt_opened : i.0 < opened = let small = i.1 in omega arith in
            let done = subst (λ u. length links ≤ get_or cursors u 0) place (taken.finished i.0 lt_opened) in
            omega arith

-- the list of starts grows by one, which is reached from then on
pub AreFollowed-start : {d : Direction} {links : List Link} {reached : List Bool} (starts more : List ℕ) (v : ℕ) → more ≡ starts ++ v ∷ [] → v < length reached → AreFollowed d links starts [] reached → AreFollowed d links more [] (set reached v true)
AreFollowed-start {d} {links} {reached} starts more v e lt h =
    subst (λ vs. AreFollowed d links vs [] (set reached v true)) (sym e) (record {
      begins = λ u i. ⊎_elim (λ before. has-set reached v u (h.begins u before)) (λ same. subst (λ w. has (set reached v true) w ≡ true) same (get_or-set_same reached v true false lt)) (Contains-push_cases starts v u i);
      leads = λ u set_now. has-set_elim (λ w. IsIncluded d links (starts ++ v ∷ []) [] w) reached v u (IsReached-start d links (is_accepted []) (starts ++ v ∷ []) v (Contains-push starts v)) (λ before. IsReached-weaker d links (is_accepted []) starts (is_accepted []) (λ j small a. a) (starts ++ v ∷ []) (λ w i. Contains-append_left starts (v ∷ []) w i) u (h.leads u before)) set_now;
      closed = λ j small a. absurd (true≢false (sym a));
    })

pub taken_after : (shown more : Shown) (c : ℕ) (b : Bool) → more ≡ shown ++ (c, b) ∷ [] → taken_links more None ≡ shown_links shown ++ c ∷ []
taken_after shown more c b e = append-nil (shown_links more) ∙ ap shown_links e ∙ map-append (λ (s : ℕ × Bool). s.0) shown ((c, b) ∷ [])

-- an answer takes no node from the work list
pub opened-answered : (w : WalkValue) (c : ℕ) (b : Bool) → w.waiting ≡ Some c → opened_of (record w { waiting = None; shown = w.shown ++ (c, b) ∷ [] }) ≡ opened_of w
opened-answered w c b waits = ap (λ (js : List ℕ). w.looked - length js) (taken_after w.shown (w.shown ++ (c, b) ∷ []) c b refl ∙ ap (taken_links w.shown) (sym waits))

-- a link was taken and gets its answer
module _ {d : Direction} {n : ℕ} {links : List Link} {reached : List Bool} {order cursors : List ℕ} {opened : ℕ} (shown : Shown) (c : ℕ) (h : AreTaken d n links reached order cursors opened (shown_links shown ++ c ∷ [])) where
  pub waiting_within : c < length links
  waiting_within = ((h.each c).0 (Contains-push (shown_links shown) c)).0

  pub waiting_near : has reached (near_at d links c) ≡ true
  waiting_near = h.leaves c waiting_within ((h.each c).0 (Contains-push (shown_links shown) c)).1

  pub waiting_room : length shown < length links
  waiting_room =
      let most = length-taken-le h in
      let one_more = length_push (shown_links shown) c in
      let as_many = length-map shown (λ (s : ℕ × Bool). s.0) in
      omega arith

  pub AreTaken-answered : (more : Shown) (b : Bool) → more ≡ shown ++ (c, b) ∷ [] → AreTaken d n links reached order cursors opened (taken_links more None)
  AreTaken-answered more b e = subst (λ js. AreTaken d n links reached order cursors opened js) (sym (taken_after shown more c b e)) h

  pub AreTaken-accepted : (more : Shown) (b : Bool) → more ≡ shown ++ (c, b) ∷ [] → (wider : List Bool) (longer : List ℕ) (v : ℕ) → wider ≡ set reached v true → longer ≡ cond (has reached v) order (order ++ v ∷ []) → AreTaken d n links wider longer cursors opened (taken_links more None)
  AreTaken-accepted more b e wider longer v w l =
      cond_both (has reached v) order (order ++ v ∷ []) (λ xs. longer ≡ xs → AreTaken d n links wider longer cursors opened (taken_links more None)) (λ _ same. subst (λ xs. AreTaken d n links wider xs cursors opened (taken_links more None)) (append-nil order ∙ sym same) (grown [])) (λ _ same. subst (λ xs. AreTaken d n links wider xs cursors opened (taken_links more None)) (sym same) (grown (v ∷ []))) l
    where
      grown : (rest : List ℕ) → AreTaken d n links wider (order ++ rest) cursors opened (taken_links more None)
      grown rest = subst (λ flags. AreTaken d n links flags (order ++ rest) cursors opened (taken_links more None)) (sym w) (AreTaken-wider (AreTaken-answered more b e) (set reached v true) rest (has-set reached v))

-- a walk whose answers a test gives includes what the links that pass reach
module _ (shown : Shown) (passes : ℕ → Bool) (answers : All (λ (s : ℕ × Bool). s.1 ≡ passes s.0) shown) where
  passed : (j : ℕ) → is_accepted shown j ≡ true → passes j ≡ true
  passed j h =
      let s = list_any_cases (λ (s : ℕ × Bool). eqb s.0 j && s.1) shown h in
      let parts = and_parts (eqb s.0.0 j) s.0.1 s.2 in
      ap passes (sym (eqb-true s.0.0 j parts.0)) ∙ sym (All-contains (λ (t : ℕ × Bool). t.1 ≡ passes t.0) shown s.0 answers s.1) ∙ parts.1

  accepted : (j : ℕ) → passes j ≡ true → Contains (shown_links shown) j → is_accepted shown j ≡ true
  accepted j h inside =
      let s = Contains-map_cases (λ (t : ℕ × Bool). t.0) shown j inside in
      list_any-from_Contains (λ (t : ℕ × Bool). eqb t.0 j && t.1) shown s.0 s.1 (and_from (eqb s.0.0 j) s.0.1 (eq-eqb s.0.0 j s.2) (All-contains (λ (t : ℕ × Bool). t.1 ≡ passes t.0) shown s.0 answers s.1 ∙ ap passes s.2 ∙ h))

  -- at any moment no more than that
  pub included_reached : (d : Direction) (links : List Link) (starts : List ℕ) (v : ℕ) → IsIncluded d links starts shown v → IsReached d links passes starts v
  included_reached d links starts v = IsReached-weaker d links (is_accepted shown) starts passes (λ j lt h. passed j h) starts (λ u i. i) v

  -- all of it once no link is left
  pub included_by_test : {d : Direction} {links : List Link} {starts : List ℕ} → IsShowing d links starts shown → (v : ℕ) → IsIncluded d links starts shown v ↔ IsReached d links passes starts v
  included_by_test {d} {links} {starts} whole v = (included_reached d links starts v, IsReached-closed d links passes starts (IsIncluded d links starts shown) (IsReached-start d links (is_accepted shown) starts) (λ j lt h near. IsReached-more d links (is_accepted shown) starts j lt (accepted j h ((whole.each j).1 (lt, near))) near) v)

-- flags that are all set let each link through
pub reached_by_all : (d : Direction) (links : List Link) (starts : List ℕ) (v : ℕ) → IsReached d links (has (replicate (length links) true)) starts v ↔ IsReached d links any_link starts v
reached_by_all d links starts v = (IsReached-weaker d links (has (replicate (length links) true)) starts any_link (λ j lt h. refl) starts (λ u i. i) v, IsReached-weaker d links any_link starts (has (replicate (length links) true)) (λ j lt h. get_or-replicate (length links) j true false lt) starts (λ u i. i) v)
