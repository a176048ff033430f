-- The last knot has no link left: it is a component, gets the next rank and leaves the path.
use Rattle.std.proofs.Common.{◌≡◌, ◌≢◌, ℕ, ◌+◌, ◌<◌, ◌≤◌, Bool, true, List, [], ◌∷◌, ◌++◌, length, get_or, take, sym, subst, ◌∙◌, inl, inr, ⊎_elim, Contains, All, AllPairs, arith}
use Rattle.std.proofs.lemmas.Bool.{cases_lt}
use Rattle.std.proofs.lemmas.List.{get_or-take, length-take-le}
use Rattle.std.proofs.lemmas.List.Elements.{All-push, All-take, All-weaker, All-contains, Contains-push}
use Rattle.numbered_graph.specs.declared.link.Link.{Link}
use Rattle.numbered_graph.specs.declared.direction.Direction.TheVariants.{Reverse}
use Rattle.numbered_graph.specs.Links.{near_at, far_at}
use Rattle.numbered_graph.specs.Paths.{Reaches}
use Rattle.numbered_graph.specs.Searches.{Lists, IsOpen, IsNoEarlier, IsSeen, RanksFrom, Searches}
use Rattle.numbered_graph.proofs.ListParts.{All-left, AllPairs-left, AllPairs-last}

first-rest : (left : List ℕ) (start n : ℕ) → get_or (left ++ start ∷ []) 0 n ≡ 0 → get_or left 0 start ≡ 0
first-rest [] start n h = h
first-rest (x ∷ left) start n h = h

module _ {links : List Link} {passes : ℕ → Bool} {nodes : ℕ} {s : Lists} (h : Searches links passes nodes s) (left : List ℕ) (start : ℕ) (cut : s.starts ≡ left ++ start ∷ []) (done : All (λ v. get_or s.places v 0 ≤ start) s.todo) (ranks : List ℕ) (closes : RanksFrom start (length s.path) (s.closed + 1) s.path s.ranks ranks) where
  rising_cut : AllPairs (λ a b. a < b) (left ++ start ∷ [])
  rising_cut = subst (λ xs. AllPairs (λ a b. a < b) xs) cut h.starts.rising

  left_before : All (λ a. a < start) left
  left_before = AllPairs-last (λ a b. a < b) left start rising_cut

  -- what holds of all starts, and of those that are left
  part : (P : ℕ → Type 0) → All P s.starts → All P left
  part P all = All-left P left (start ∷ []) (subst (All P) cut all)

  whole : (P : ℕ → Type 0) → All P left → P start → All P s.starts
  whole P all last = subst (All P) (sym cut) (All-push P left start all last)

  all_up : All (λ a. a ≤ start) s.starts
  all_up = whole (λ a. a ≤ start) (All-weaker (λ a. a < start) (λ a. a ≤ start) (λ a lt. omega arith) left left_before) (omega arith)

  start_in : Contains s.starts start
  start_in = subst (λ xs. Contains xs start) (sym cut) (Contains-push left start)

  start_within : start < length s.path
  start_within = All-contains (λ a. a < length s.path) s.starts start h.starts.within start_in

  -- a node of the path from the start of the last knot on is open
  knot_open : (v i : ℕ) → i < length s.path → get_or s.path i 0 ≡ v → IsOpen s.places s.ranks v i
  knot_open v i lt e = subst (λ u. IsOpen s.places s.ranks u i) e (h.path.open_at i lt)

  knot_done : (v i : ℕ) → IsOpen s.places s.ranks v i → start ≤ i → length links ≤ get_or s.cursors v 0
  knot_done v i o late = ⊎_elim (λ small. absurd (let early = All-contains (λ u. get_or s.places u 0 ≤ start) s.todo v done (h.todo.all v i o small) in let placed = o.placed in omega arith)) (λ le. le) (cases_lt (get_or s.cursors v 0) (length links))

  still_ranked : (v : ℕ) → 0 < get_or s.ranks v 0 → get_or ranks v 0 ≡ get_or s.ranks v 0
  still_ranked v ranked = ⊎_elim (λ k. absurd (let unranked = (knot_open v k.1.0 k.1.2 k.1.3).unranked in omega arith)) (λ k. k.0) (closes.each v)

  open_before : (v i : ℕ) → IsOpen s.places ranks v i → IsOpen s.places s.ranks v i × (i < start)
  open_before v i o = ⊎_elim (λ k. absurd (let rank = k.0 in let unranked = o.unranked in omega arith)) (λ k. let before : IsOpen s.places s.ranks v i = record { placed = o.placed; unranked = sym k.0 ∙ o.unranked } in (before, ⊎_elim (λ lt. lt) (λ late. absurd (let found = h.path.found v i before in k.1 i late found.0 found.1)) (cases_lt i start))) (closes.each v)

  still_open : (v i : ℕ) → IsOpen s.places s.ranks v i → i < start → IsOpen s.places ranks v i
  still_open v i o early = ⊎_elim (λ k. absurd (let other = (knot_open v k.1.0 k.1.2 k.1.3).placed in let placed = o.placed in let late = k.1.1 in omega arith)) (λ k. record { placed = o.placed; unranked = k.0 ∙ o.unranked }) (closes.each v)

  on_path : (i : ℕ) → i < start → get_or (take start s.path) i 0 ≡ get_or s.path i 0
  on_path i lt = get_or-take start s.path i 0 lt

  size : length (take start s.path) ≡ start
  size = length-take-le start s.path (let z = start_within in omega arith)

  path_open : (i : ℕ) → i < length (take start s.path) → IsOpen s.places ranks (get_or (take start s.path) i 0) i
  path_open i lt =
      let early : i < start = let z = size in omega arith in
      let within : i < length s.path = let z = start_within in omega arith in
      subst (λ v. IsOpen s.places ranks v i) (sym (on_path i early)) (still_open (get_or s.path i 0) i (h.path.open_at i within) early)

  path_found : (v i : ℕ) → IsOpen s.places ranks v i → (i < length (take start s.path)) × (get_or (take start s.path) i 0 ≡ v)
  path_found v i o =
      let before = open_before v i o in
      (let early = before.1 in let z = size in omega arith, on_path i before.1 ∙ (h.path.found v i before.0).1)

  ranked_placed' : (v : ℕ) → 0 < get_or ranks v 0 → 0 < get_or s.places v 0
  ranked_placed' v ranked = ⊎_elim (λ k. let placed = (knot_open v k.1.0 k.1.2 k.1.3).placed in omega arith) (λ k. h.path.ranked_placed v (subst (λ m. 0 < m) k.0 ranked)) (closes.each v)

  knotted' : (i k : ℕ) → i < length (take start s.path) → k < length (take start s.path) → IsNoEarlier left i k → Reaches links passes (get_or (take start s.path) i 0) (get_or (take start s.path) k 0)
  knotted' i k lt_i lt_k ne =
      let early_i : i < start = let z = size in omega arith in
      let early_k : k < start = let z = size in omega arith in
      let within_i : i < length s.path = let z = start_within in omega arith in
      let within_k : k < length s.path = let z = start_within in omega arith in
      subst (λ v. Reaches links passes v (get_or (take start s.path) k 0)) (sym (on_path i early_i)) (subst (λ v. Reaches links passes (get_or s.path i 0) v) (sym (on_path k early_k)) (h.knotted i k within_i within_k (whole (λ a. a ≤ k → a ≤ i) ne (λ le. absurd (omega arith)))))

  -- a node of the last knot has the new rank
  knot_rank : (v i : ℕ) → IsOpen s.places s.ranks v i → start ≤ i → get_or ranks v 0 ≡ s.closed + 1
  knot_rank v i o late = ⊎_elim (λ k. k.0) (λ k. absurd (let found = h.path.found v i o in k.1 i late found.0 found.1)) (closes.each v)

  followed' : (j i : ℕ) → j < length links → passes j ≡ true → IsOpen s.places ranks (near_at Reverse links j) i → j < get_or s.cursors (near_at Reverse links j) 0 → IsSeen s.places ranks left (far_at Reverse links j) i
  followed' j i lt ok o before =
      let was = open_before (near_at Reverse links j) i o in
      ⊎_elim (λ ranked. inl (subst (λ m. 0 < m) (sym (still_ranked (far_at Reverse links j) ranked)) ranked)) (λ k. ⊎_elim (λ early. inr (k.0, still_open (far_at Reverse links j) k.0 k.1 early, part (λ a. a ≤ i → a ≤ k.0) k.2)) (λ late. inl (let rank = knot_rank (far_at Reverse links j) k.0 k.1 late in omega arith)) (cases_lt k.0 start)) (h.followed j i lt ok was.0 before)

  back' : (j : ℕ) → j < length links → passes j ≡ true → 0 < get_or ranks (near_at Reverse links j) 0 → (0 < get_or ranks (far_at Reverse links j) 0) × (get_or ranks (far_at Reverse links j) 0 ≤ get_or ranks (near_at Reverse links j) 0)
  back' j lt ok ranked = ⊎_elim in_knot before (closes.each (near_at Reverse links j))
    where
      seen_rank : (i : ℕ) → start ≤ i → get_or ranks (near_at Reverse links j) 0 ≡ s.closed + 1 → IsSeen s.places s.ranks s.starts (far_at Reverse links j) i → (0 < get_or ranks (far_at Reverse links j) 0) × (get_or ranks (far_at Reverse links j) 0 ≤ get_or ranks (near_at Reverse links j) 0)
      seen_rank i late rank = λ seen. ⊎_elim (λ r. let same = still_ranked (far_at Reverse links j) r in let most = h.ranked.most (far_at Reverse links j) in (omega arith, omega arith)) (λ k. let far_late = All-contains (λ a. a ≤ i → a ≤ k.0) s.starts start k.2 start_in late in let far_rank = knot_rank (far_at Reverse links j) k.0 k.1 far_late in (omega arith, omega arith)) seen

      in_knot : (get_or ranks (near_at Reverse links j) 0 ≡ s.closed + 1) × ((i : ℕ) × (start ≤ i) × (i < length s.path) × (get_or s.path i 0 ≡ near_at Reverse links j)) → (0 < get_or ranks (far_at Reverse links j) 0) × (get_or ranks (far_at Reverse links j) 0 ≤ get_or ranks (near_at Reverse links j) 0)
      in_knot k =
          let o = knot_open (near_at Reverse links j) k.1.0 k.1.2 k.1.3 in
          let past = knot_done (near_at Reverse links j) k.1.0 o k.1.1 in
          seen_rank k.1.0 k.1.1 k.0 (h.followed j k.1.0 lt ok o (omega arith))

      before : (get_or ranks (near_at Reverse links j) 0 ≡ get_or s.ranks (near_at Reverse links j) 0) × ((i : ℕ) → start ≤ i → i < length s.path → get_or s.path i 0 ≢ near_at Reverse links j) → (0 < get_or ranks (far_at Reverse links j) 0) × (get_or ranks (far_at Reverse links j) 0 ≤ get_or ranks (near_at Reverse links j) 0)
      before k =
          let old = h.ranked.back j lt ok (subst (λ m. 0 < m) k.0 ranked) in
          let far_old = old.0 in
          let rises = old.1 in
          let near_same = k.0 in
          let far_same = still_ranked (far_at Reverse links j) old.0 in
          (omega arith, omega arith)

  same' : (a b : ℕ) → 0 < get_or ranks a 0 → get_or ranks a 0 ≡ get_or ranks b 0 → Reaches links passes a b
  same' a b ranked e =
      ⊎_elim (λ k. ⊎_elim (λ m. subst (λ v. Reaches links passes v b) k.1.3 (subst (λ v. Reaches links passes (get_or s.path k.1.0 0) v) m.1.3 (h.knotted k.1.0 m.1.0 k.1.2 m.1.2 (All-weaker (λ x. x ≤ start) (λ x. x ≤ m.1.0 → x ≤ k.1.0) (λ x up le. let late = k.1.1 in omega arith) s.starts all_up)))) (λ m. absurd (let most = h.ranked.most b in let ra = k.0 in let rb = m.0 in omega arith)) (closes.each b)) (λ k. ⊎_elim (λ m. absurd (let most = h.ranked.most a in let ra = k.0 in let rb = m.0 in omega arith)) (λ m. h.ranked.same a b (subst (λ n. 0 < n) k.0 ranked) (sym k.0 ∙ e ∙ m.0)) (closes.each b)) (closes.each a)

  most' : (v : ℕ) → get_or ranks v 0 ≤ s.closed + 1
  most' v = ⊎_elim (λ k. let rank = k.0 in omega arith) (λ k. let same = k.0 in let most = h.ranked.most v in omega arith) (closes.each v)

  early_in_todo : (v : ℕ) → (i : ℕ) × IsOpen s.places s.ranks v i → get_or s.places v 0 ≤ start → (i : ℕ) × IsOpen s.places ranks v i
  early_in_todo v o early = (o.0, still_open v o.0 o.1 (let placed = o.1.placed in omega arith))

  pub Searches-close : Searches links passes nodes (record s { path = take start s.path; ranks = ranks; starts = left; closed = s.closed + 1 })
  Searches-close = record {
    sized = record { cursors_sized = h.sized.cursors_sized; places_sized = h.sized.places_sized; ranks_sized = closes.sized ∙ h.sized.ranks_sized };
    cursors = h.cursors;
    path = record { below = All-take (λ v. v < nodes) start s.path h.path.below; open_at = path_open; found = path_found; ranked_placed = ranked_placed' };
    starts = record {
      rising = AllPairs-left (λ a b. a < b) left (start ∷ []) rising_cut;
      within = All-weaker (λ a. a < start) (λ a. a < length (take start s.path)) (λ a lt. let z = size in omega arith) left left_before;
      first = subst (λ n. get_or left 0 n ≡ 0) (sym size) (first-rest left start (length s.path) (subst (λ xs. get_or xs 0 (length s.path) ≡ 0) cut h.starts.first));
    };
    knotted = knotted';
    followed = followed';
    ranked = record { back = back'; same = same'; most = most' };
    todo = record {
      opened = λ k d lt. early_in_todo (get_or s.todo k d) (h.todo.opened k d lt) (done k d lt);
      rising = h.todo.rising;
      all = λ v i o small. h.todo.all v i (open_before v i o).0 small;
    };
    counted = let before = h.counted in let some = start_within in let z = size in omega arith;
  }

  pub Searches-closed : (path starts : List ℕ) (closed : ℕ) → path ≡ take start s.path → starts ≡ left → closed ≡ s.closed + 1 → Searches links passes nodes (record s { path = path; ranks = ranks; starts = starts; closed = closed })
  Searches-closed path starts closed p e c =
      subst (λ n. Searches links passes nodes (record s { path = path; ranks = ranks; starts = starts; closed = n })) (sym c) (subst (λ xs. Searches links passes nodes (record s { path = path; ranks = ranks; starts = xs; closed = s.closed + 1 })) (sym e) (subst (λ xs. Searches links passes nodes (record s { path = xs; ranks = ranks; starts = left; closed = s.closed + 1 })) (sym p) Searches-close))
