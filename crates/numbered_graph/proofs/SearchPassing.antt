-- A link was met, and the cursor of its node goes on; or a node has no link left.
use Rattle.std.proofs.Common.{◌≡◌, ◌≢◌, ℕ, suc, ◌<◌, ◌≤◌, Bool, true, List, [], ◌∷◌, ◌++◌, length, get_or, set, sym, subst, ◌∙◌, ◌⊎◌, ⊎_elim, Contains, All, AllPairs, arith}
use Rattle.std.proofs.lemmas.Bool.{cases_eq, cases_lt}
use Rattle.std.proofs.lemmas.List.{get_or-set_same, get_or-set_other, length-set}
use Rattle.std.proofs.lemmas.List.Elements.{Contains-push_cases}
use Rattle.numbered_graph.specs.declared.link.Link.{Link}
use Rattle.numbered_graph.specs.declared.direction.Direction.TheVariants.{Reverse}
use Rattle.numbered_graph.specs.Links.{near_at, far_at}
use Rattle.numbered_graph.specs.Chains.{IsNextLink}
use Rattle.numbered_graph.specs.Searches.{Lists, IsOpen, IsSeen, Searches}
use Rattle.numbered_graph.proofs.ListParts.{All-left, AllPairs-left}

module _ {links : List Link} {passes : ℕ → Bool} {nodes : ℕ} {s : Lists} (h : Searches links passes nodes s) (v : ℕ) (within : v < nodes) where
  module _ (c next : ℕ) (at : c ≡ get_or s.cursors v 0) (small : c < length links) (is_next : IsNextLink Reverse links (near_at Reverse links c) (suc c) next) (place : ℕ) (is_open : IsOpen s.places s.ranks v place) (seen : (i : ℕ) → passes c ≡ true → IsOpen s.places s.ranks (near_at Reverse links c) i → IsSeen s.places s.ranks s.starts (far_at Reverse links c) i) where
    near_is : near_at Reverse links c ≡ v
    near_is = subst (λ i. near_at Reverse links i ≡ v) (sym at) (h.cursors.follows v within (subst (λ i. i < length links) at small))

    in_cursors : v < length s.cursors
    in_cursors = subst (λ n. v < n) (sym h.sized.cursors_sized) within

    there : get_or (set s.cursors v next) v 0 ≡ next
    there = get_or-set_same s.cursors v next 0 in_cursors

    other : (u : ℕ) → u ≢ v → get_or (set s.cursors v next) u 0 ≡ get_or s.cursors u 0
    other u ne = get_or-set_other s.cursors v u next 0 ne

    follows' : (u : ℕ) → u < nodes → get_or (set s.cursors v next) u 0 < length links → near_at Reverse links (get_or (set s.cursors v next) u 0) ≡ u
    follows' u below = ⊎_elim (λ e. subst (λ w. get_or (set s.cursors v next) w 0 < length links → near_at Reverse links (get_or (set s.cursors v next) w 0) ≡ w) (sym e) (subst (λ m. m < length links → near_at Reverse links m ≡ v) (sym there) (λ lt. is_next.follows lt ∙ near_is))) (λ ne. subst (λ m. m < length links → near_at Reverse links m ≡ u) (sym (other u ne)) (h.cursors.follows u below)) (cases_eq u v)

    unmet' : (j : ℕ) → j < length links → get_or s.places (near_at Reverse links j) 0 ≡ 0 → get_or (set s.cursors v next) (near_at Reverse links j) 0 ≤ j
    unmet' j lt new = ⊎_elim (λ e. absurd (let z = subst (λ u. get_or s.places u 0 ≡ 0) e new in let placed = is_open.placed in omega arith)) (λ ne. subst (λ m. m ≤ j) (sym (other (near_at Reverse links j) ne)) (h.cursors.unmet j lt new)) (cases_eq (near_at Reverse links j) v)

    followed' : (j i : ℕ) → j < length links → passes j ≡ true → IsOpen s.places s.ranks (near_at Reverse links j) i → j < get_or (set s.cursors v next) (near_at Reverse links j) 0 → IsSeen s.places s.ranks s.starts (far_at Reverse links j) i
    followed' j i lt ok o before = ⊎_elim (λ e. here e (subst (λ u. j < get_or (set s.cursors v next) u 0) e before) (cases_lt j c)) (λ ne. h.followed j i lt ok o (subst (λ m. j < m) (other (near_at Reverse links j) ne) before)) (cases_eq (near_at Reverse links j) v)
      where
        here : near_at Reverse links j ≡ v → j < get_or (set s.cursors v next) v 0 → (j < c) ⊎ (c ≤ j) → IsSeen s.places s.ranks s.starts (far_at Reverse links j) i
        here e b = λ o3. ⊎_elim (λ l. h.followed j i lt ok o (subst (λ u. j < get_or s.cursors u 0) (sym e) (omega arith))) (λ ge. ⊎_elim (λ same. subst (λ m. passes m ≡ true → IsOpen s.places s.ranks (near_at Reverse links m) i → IsSeen s.places s.ranks s.starts (far_at Reverse links m) i) (sym same) (seen i) ok o) (λ ne. absurd (is_next.none_between j (omega arith) (let t = there in omega arith) (e ∙ sym near_is))) (cases_eq j c)) o3

    pub Searches-pass : Searches links passes nodes (record s { cursors = set s.cursors v next })
    Searches-pass = record {
      sized = record { cursors_sized = length-set s.cursors v next ∙ h.sized.cursors_sized; places_sized = h.sized.places_sized; ranks_sized = h.sized.ranks_sized };
      cursors = record { follows = follows'; unmet = unmet' };
      path = h.path;
      starts = h.starts;
      knotted = h.knotted;
      followed = followed';
      ranked = h.ranked;
      todo = record {
        opened = h.todo.opened;
        rising = h.todo.rising;
        all = λ u i o lt. ⊎_elim (λ e. subst (λ w. Contains s.todo w) (sym e) (h.todo.all v place is_open (omega arith))) (λ ne. h.todo.all u i o (subst (λ m. m < length links) (other u ne) lt)) (cases_eq u v);
      };
      counted = h.counted;
    }

  -- the last node that may have links left has none
  pub Searches-rest : (rest : List ℕ) → s.todo ≡ rest ++ v ∷ [] → length links ≤ get_or s.cursors v 0 → Searches links passes nodes (record s { todo = rest })
  Searches-rest rest e done = record {
    sized = h.sized;
    cursors = h.cursors;
    path = h.path;
    starts = h.starts;
    knotted = h.knotted;
    followed = h.followed;
    ranked = h.ranked;
    todo = record {
      opened = All-left (λ u. (i : ℕ) × IsOpen s.places s.ranks u i) rest (v ∷ []) (subst (λ xs. All (λ u. (i : ℕ) × IsOpen s.places s.ranks u i) xs) e h.todo.opened);
      rising = AllPairs-left (λ a b. get_or s.places a 0 ≤ get_or s.places b 0) rest (v ∷ []) (subst (λ xs. AllPairs (λ a b. get_or s.places a 0 ≤ get_or s.places b 0) xs) e h.todo.rising);
      all = λ u i o lt. ⊎_elim (λ inside. inside) (λ same. absurd (let small = subst (λ w. get_or s.cursors w 0 < length links) (sym same) lt in omega arith)) (Contains-push_cases rest v u (subst (λ xs. Contains xs u) e (h.todo.all u i o lt)));
    };
    counted = h.counted;
  }
