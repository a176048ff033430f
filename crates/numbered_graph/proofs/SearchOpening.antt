-- A new node is put at the end of the path, as a knot of its own.
use Rattle.std.proofs.Common.{◌≡◌, ◌≢◌, ℕ, suc, ◌+◌, ◌<◌, ◌≤◌, Bool, true, cond, eqb, List, [], ◌∷◌, ◌++◌, length, get_or, set, refl, ap, sym, subst, ◌∙◌, inl, inr, ⊎_elim, Contains, AllPairs, arith}
use Rattle.std.proofs.lemmas.Bool.{cases_eq, cases_lt, ne_eqb}
use Rattle.std.proofs.lemmas.List.{get_or-set_same, get_or-set_other, length-set, length_push, get_or_append_left, get_or_push}
use Rattle.std.proofs.lemmas.List.Elements.{All-push, All-weaker, All-contains, Contains-push, Contains-append_left}
use Rattle.std.proofs.lemmas.List.Quantifiers.{all_pairs_push}
use Rattle.std.proofs.lemmas.List.Sums.{sum_by-set}
use Rattle.numbered_graph.specs.declared.link.Link.{Link}
use Rattle.numbered_graph.specs.declared.direction.Direction.TheVariants.{Reverse}
use Rattle.numbered_graph.specs.Links.{near_at, far_at}
use Rattle.numbered_graph.specs.Paths.{Reaches}
use Rattle.numbered_graph.specs.Searches.{Lists, opened, unplaced, IsOpen, IsNoEarlier, IsSeen, Searches}
use Rattle.numbered_graph.proofs.PathFacts.{Reaches-refl}
use Rattle.numbered_graph.proofs.ListParts.{All-left}

abbrev unplaced_at : ℕ → ℕ
unplaced_at place = cond (eqb place 0) 1 0

first-push : (starts : List ℕ) (n m : ℕ) → get_or starts 0 n ≡ 0 → get_or (starts ++ n ∷ []) 0 m ≡ 0
first-push [] n m h = h
first-push (x ∷ xs) n m h = h

module _ {links : List Link} {passes : ℕ → Bool} {nodes : ℕ} {s : Lists} (h : Searches links passes nodes s) (w : ℕ) (below : w < nodes) (new : get_or s.places w 0 ≡ 0) where
  in_places : w < length s.places
  in_places = subst (λ n. w < n) (sym h.sized.places_sized) below

  pub there : get_or (set s.places w (length s.path + 1)) w 0 ≡ suc (length s.path)
  there = let e = get_or-set_same s.places w (length s.path + 1) 0 in_places in omega arith

  other : (v : ℕ) → v ≢ w → get_or (set s.places w (length s.path + 1)) v 0 ≡ get_or s.places v 0
  other v ne = get_or-set_other s.places w v (length s.path + 1) 0 ne

  is_new : (v i : ℕ) → IsOpen s.places s.ranks v i → v ≢ w
  is_new v i o e = let placed = subst (λ u. get_or s.places u 0 ≡ suc i) e o.placed in omega arith

  pub to_new : (v i : ℕ) → IsOpen s.places s.ranks v i → IsOpen (set s.places w (length s.path + 1)) s.ranks v i
  to_new v i o = record { placed = other v (is_new v i o) ∙ o.placed; unranked = o.unranked }

  pub w_open : IsOpen (set s.places w (length s.path + 1)) s.ranks w (length s.path)
  w_open = record { placed = there; unranked = ⊎_elim (λ ranked. absurd (let placed = h.path.ranked_placed w ranked in omega arith)) (λ none. omega arith) (cases_lt 0 (get_or s.ranks w 0)) }

  -- it is one of those that were not put there
  fewer_unplaced : unplaced (set s.places w (length s.path + 1)) + 1 ≡ unplaced s.places
  fewer_unplaced =
      let at : unplaced (set s.places w (length s.path + 1)) + unplaced_at (get_or s.places w 0) ≡ unplaced s.places + unplaced_at (length s.path + 1) = sum_by-set unplaced_at s.places w (length s.path + 1) 0 in_places in
      let was : unplaced_at (get_or s.places w 0) ≡ 1 = ap unplaced_at new in
      let is : unplaced_at (length s.path + 1) ≡ 0 = ap (λ b. cond b 1 0) (ne_eqb (length s.path + 1) 0 (λ e. absurd (omega arith))) in
      omega arith

  -- what is open now is the new node, or was open before
  from_new : (P : ℕ → ℕ → Type 0) → P w (length s.path) → ((v i : ℕ) → IsOpen s.places s.ranks v i → P v i) → (v i : ℕ) → IsOpen (set s.places w (length s.path + 1)) s.ranks v i → P v i
  from_new P at_w before v i o =
      ⊎_elim (λ e. let same : length s.path ≡ i = let placed = subst (λ u. get_or (set s.places w (length s.path + 1)) u 0 ≡ suc i) e o.placed in let t = there in omega arith in subst (λ u. P u i) (sym e) (subst (P w) same at_w)) (λ ne. before v i (record { placed = sym (other v ne) ∙ o.placed; unranked = o.unranked })) (cases_eq v w)

  more_seen : (v i : ℕ) → i < length s.path → IsSeen s.places s.ranks s.starts v i → IsSeen (set s.places w (length s.path + 1)) s.ranks (s.starts ++ length s.path ∷ []) v i
  more_seen v i lt = λ seen. ⊎_elim (λ ranked. inl ranked) (λ k. inr (k.0, to_new v k.0 k.1, All-push (λ a. a ≤ i → a ≤ k.0) s.starts (length s.path) k.2 (λ le. absurd (omega arith)))) seen

  at_end : get_or (s.path ++ w ∷ []) (length s.path) 0 ≡ w
  at_end = get_or_push s.path w 0 (length s.path) refl

  on_path : (i : ℕ) → i < length s.path → get_or (s.path ++ w ∷ []) i 0 ≡ get_or s.path i 0
  on_path i lt = get_or_append_left s.path (w ∷ []) 0 i lt

  path_open : (i : ℕ) → i < length (s.path ++ w ∷ []) → IsOpen (set s.places w (length s.path + 1)) s.ranks (get_or (s.path ++ w ∷ []) i 0) i
  path_open i lt = ⊎_elim (λ e. subst (λ k. IsOpen (set s.places w (length s.path + 1)) s.ranks (get_or (s.path ++ w ∷ []) k 0) k) (sym e) (subst (λ v. IsOpen (set s.places w (length s.path + 1)) s.ranks v (length s.path)) (sym at_end) w_open)) (λ ne. let small : i < length s.path = let size = length_push s.path w in omega arith in subst (λ v. IsOpen (set s.places w (length s.path + 1)) s.ranks v i) (sym (on_path i small)) (to_new (get_or s.path i 0) i (h.path.open_at i small))) (cases_eq i (length s.path))

  path_found : (v i : ℕ) → IsOpen (set s.places w (length s.path + 1)) s.ranks v i → (i < length (s.path ++ w ∷ [])) × (get_or (s.path ++ w ∷ []) i 0 ≡ v)
  path_found = from_new (λ v i. (i < length (s.path ++ w ∷ [])) × (get_or (s.path ++ w ∷ []) i 0 ≡ v)) (let size = length_push s.path w in omega arith, at_end) (λ v i o. let f = h.path.found v i o in (let lt = f.0 in let size = length_push s.path w in omega arith, on_path i f.0 ∙ f.1))

  pub kept_placed : (v : ℕ) → 0 < get_or s.places v 0 → 0 < get_or (set s.places w (length s.path + 1)) v 0
  kept_placed v placed = ⊎_elim (λ e. subst (λ u. 0 < get_or (set s.places w (length s.path + 1)) u 0) (sym e) (let t = there in omega arith)) (λ ne. subst (λ m. 0 < m) (sym (other v ne)) placed) (cases_eq v w)

  ranked_placed' : (v : ℕ) → 0 < get_or s.ranks v 0 → 0 < get_or (set s.places w (length s.path + 1)) v 0
  ranked_placed' v ranked = kept_placed v (h.path.ranked_placed v ranked)

  unmet' : (j : ℕ) → j < length links → get_or (set s.places w (length s.path + 1)) (near_at Reverse links j) 0 ≡ 0 → get_or s.cursors (near_at Reverse links j) 0 ≤ j
  unmet' j lt zero_now = ⊎_elim (λ e. absurd (let z = subst (λ u. get_or (set s.places w (length s.path + 1)) u 0 ≡ 0) e zero_now in let t = there in omega arith)) (λ ne. h.cursors.unmet j lt (sym (other (near_at Reverse links j) ne) ∙ zero_now)) (cases_eq (near_at Reverse links j) w)

  followed' : (j i : ℕ) → j < length links → passes j ≡ true → IsOpen (set s.places w (length s.path + 1)) s.ranks (near_at Reverse links j) i → j < get_or s.cursors (near_at Reverse links j) 0 → IsSeen (set s.places w (length s.path + 1)) s.ranks (s.starts ++ length s.path ∷ []) (far_at Reverse links j) i
  followed' j i lt ok o before =
      from_new (λ v k. near_at Reverse links j ≡ v → IsSeen (set s.places w (length s.path + 1)) s.ranks (s.starts ++ length s.path ∷ []) (far_at Reverse links j) k) (λ e. absurd (let unmet = h.cursors.unmet j lt (subst (λ u. get_or s.places u 0 ≡ 0) (sym e) new) in omega arith)) (λ v k open_k e. more_seen (far_at Reverse links j) k (h.path.found v k open_k).0 (h.followed j k lt ok (subst (λ u. IsOpen s.places s.ranks u k) (sym e) open_k) before)) (near_at Reverse links j) i o refl

  todo_rising : AllPairs (λ u v. get_or (set s.places w (length s.path + 1)) u 0 ≤ get_or (set s.places w (length s.path + 1)) v 0) s.todo
  todo_rising i j d lt small =
      let open_i = h.todo.opened i d (omega arith) in
      let open_j = h.todo.opened j d small in
      let e_i = other (get_or s.todo i d) (is_new (get_or s.todo i d) open_i.0 open_i.1) in
      let e_j = other (get_or s.todo j d) (is_new (get_or s.todo j d) open_j.0 open_j.1) in
      let rises = h.todo.rising i j d lt small in
      omega arith

  todo_last : (i : ℕ) (d : ℕ) → i < length s.todo → get_or (set s.places w (length s.path + 1)) (get_or s.todo i d) 0 ≤ get_or (set s.places w (length s.path + 1)) w 0
  todo_last i d lt =
      let open_i = h.todo.opened i d lt in
      let e_i = other (get_or s.todo i d) (is_new (get_or s.todo i d) open_i.0 open_i.1) in
      let placed = open_i.1.placed in
      let small = (h.path.found (get_or s.todo i d) open_i.0 open_i.1).0 in
      let t = there in
      omega arith

  module _ (leads : (k : ℕ) → k < length s.path → Reaches links passes w (get_or s.path k 0)) where
    knotted' : (i k : ℕ) → i < length (s.path ++ w ∷ []) → k < length (s.path ++ w ∷ []) → IsNoEarlier (s.starts ++ length s.path ∷ []) i k → Reaches links passes (get_or (s.path ++ w ∷ []) i 0) (get_or (s.path ++ w ∷ []) k 0)
    knotted' i k lt_i lt_k ne = ⊎_elim last_k (λ k_ne. ⊎_elim (last_i k_ne) (both k_ne) (cases_eq i (length s.path))) (cases_eq k (length s.path))
      where
        size : length (s.path ++ w ∷ []) ≡ length s.path + 1
        size = length_push s.path w

        last_k : k ≡ length s.path → Reaches links passes (get_or (s.path ++ w ∷ []) i 0) (get_or (s.path ++ w ∷ []) k 0)
        last_k e =
            let late = All-contains (λ a. a ≤ k → a ≤ i) (s.starts ++ length s.path ∷ []) (length s.path) ne (Contains-push s.starts (length s.path)) (omega arith) in
            let same : i ≡ k = let z = size in omega arith in
            subst (λ m. Reaches links passes (get_or (s.path ++ w ∷ []) i 0) (get_or (s.path ++ w ∷ []) m 0)) same (Reaches-refl links passes (get_or (s.path ++ w ∷ []) i 0))

        small_k : k ≢ length s.path → k < length s.path
        small_k k_ne = let z = size in omega arith

        last_i : k ≢ length s.path → i ≡ length s.path → Reaches links passes (get_or (s.path ++ w ∷ []) i 0) (get_or (s.path ++ w ∷ []) k 0)
        last_i k_ne e = subst (λ m. Reaches links passes (get_or (s.path ++ w ∷ []) m 0) (get_or (s.path ++ w ∷ []) k 0)) (sym e) (subst (λ v. Reaches links passes v (get_or (s.path ++ w ∷ []) k 0)) (sym at_end) (subst (λ v. Reaches links passes w v) (sym (on_path k (small_k k_ne))) (leads k (small_k k_ne))))

        both : k ≢ length s.path → i ≢ length s.path → Reaches links passes (get_or (s.path ++ w ∷ []) i 0) (get_or (s.path ++ w ∷ []) k 0)
        both k_ne i_ne =
            let lt_i' : i < length s.path = let z = size in omega arith in
            subst (λ v. Reaches links passes v (get_or (s.path ++ w ∷ []) k 0)) (sym (on_path i lt_i')) (subst (λ v. Reaches links passes (get_or s.path i 0) v) (sym (on_path k (small_k k_ne))) (h.knotted i k lt_i' (small_k k_ne) (All-left (λ a. a ≤ k → a ≤ i) s.starts (length s.path ∷ []) ne)))

    pub Searches-open : Searches links passes nodes (opened s w)
    Searches-open = record {
      sized = record { cursors_sized = h.sized.cursors_sized; places_sized = length-set s.places w (length s.path + 1) ∙ h.sized.places_sized; ranks_sized = h.sized.ranks_sized };
      cursors = record { follows = h.cursors.follows; unmet = unmet' };
      path = record { below = All-push (λ v. v < nodes) s.path w h.path.below below; open_at = path_open; found = path_found; ranked_placed = ranked_placed' };
      starts = record {
        rising = all_pairs_push (λ a b. a < b) s.starts (length s.path) h.starts.rising h.starts.within;
        within = All-push (λ a. a < length (s.path ++ w ∷ [])) s.starts (length s.path) (All-weaker (λ a. a < length s.path) (λ a. a < length (s.path ++ w ∷ [])) (λ a le. let size = length_push s.path w in omega arith) s.starts h.starts.within) (let size = length_push s.path w in omega arith);
        first = first-push s.starts (length s.path) (length (s.path ++ w ∷ [])) h.starts.first;
      };
      knotted = knotted';
      followed = followed';
      ranked = h.ranked;
      todo = record {
        opened = All-push (λ v. (i : ℕ) × IsOpen (set s.places w (length s.path + 1)) s.ranks v i) s.todo w (All-weaker (λ v. (i : ℕ) × IsOpen s.places s.ranks v i) (λ v. (i : ℕ) × IsOpen (set s.places w (length s.path + 1)) s.ranks v i) (λ v o. (o.0, to_new v o.0 o.1)) s.todo h.todo.opened) (length s.path, w_open);
        rising = all_pairs_push (λ u v. get_or (set s.places w (length s.path + 1)) u 0 ≤ get_or (set s.places w (length s.path + 1)) v 0) s.todo w todo_rising (λ k d lt. todo_last k d lt);
        all = from_new (λ v i. get_or s.cursors v 0 < length links → Contains (s.todo ++ w ∷ []) v) (λ _. Contains-push s.todo w) (λ v i o small. Contains-append_left s.todo (w ∷ []) v (h.todo.all v i o small));
      };
      counted = let before = h.counted in let size = length_push s.path w in let fewer = fewer_unplaced in omega arith;
    }
