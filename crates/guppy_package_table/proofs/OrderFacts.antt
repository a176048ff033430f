-- Lists in order, and what a search by halving finds in them.
use Rattle.std.proofs.Common.{◌≡◌, ◌≢◌, ℕ, suc, ◌+◌, ◌<◌, Bool, false, cond, List, [], ◌∷◌, length, get_or, map, Ok, Err, refl, sym, subst, ap, ◌∙◌, ⊎_elim, All, AllPairs, Contains, IsPermutation, IsSorted, Ordering, Less, Equal, Greater, arith, true≢false, true, Some, None, find}
use Rattle.std.specs.Cmp.{Equal-is, IsEquivalence, IsTotalOrder, eq_by_cmp_equiv}
use Rattle.std.specs.Ordering.{eq_by_cmp, is_eq, is_lt, ordering_reverse}
use Rattle.std.specs.List.{AllByRecursion, IsDistinct, dedup, dedup_from}
use Rattle.std.specs.List.Sorted.{IsStrictlySortedBy, IsBinarySearchResult}
use Rattle.std.proofs.lemmas.Bool.{cases_lt}
use Rattle.std.proofs.lemmas.Cmp.{on_total}
use Rattle.std.proofs.lemmas.List.{get_or-map, length-map}
use Rattle.std.proofs.lemmas.List.Elements.{All-contains, Contains-get_or}
use Rattle.std.proofs.lemmas.List.Kept.{IsStrictlySortedBy-dedup}
use Rattle.std.proofs.lemmas.List.Sorted.{IsPermutation-sym, Contains-permutation, searchable_from_sorted}
use Rattle.std.proofs.lemmas.Map.Keys.{IsDistinct-IsPermutation}
use Rattle.list_facts.specs.Ascending.{IsAscendingOf}
use Rattle.list_facts.proofs.Membership.{Contains-first, Contains-rest, Contains-none, Contains-cons_cases}
use Rattle.guppy_package_parts.proofs.SetFacts.{sorted_from_strictly}

not_tied : (o : Ordering) → o ≢ Equal → is_eq o ≡ false
not_tied Less h = refl
not_tied Equal h = absurd (h refl)
not_tied Greater h = refl

by_recursion : {X : Type 0} (P : X → Type 0) (xs : List X) → All P xs → AllByRecursion P xs
by_recursion P [] h = tt
by_recursion P (x ∷ xs) h = (h 0 x (omega arith), by_recursion P xs (λ i d lt. h (suc i) d (omega arith)))

-- `dedup` leaves a list whose elements are distinct
module _ {X : Type 0} {E : X → X → Bool} (laws : IsEquivalence E) where
  left_from : (k : X) (xs : List X) → IsDistinct E (k ∷ xs) → dedup_from E k xs ≡ k ∷ xs
  unfolding IsDistinct
  left_from k [] h = refl
  left_from k (x ∷ xs) h = ap (λ b. cond b (dedup_from E k xs) (k ∷ dedup_from E x xs)) (laws.symm x k ∙ h.0.0) ∙ ap (λ ys. k ∷ ys) (left_from x xs h.1)

  left : (xs : List X) → IsDistinct E xs → dedup E xs ≡ xs
  left [] h = refl
  left (x ∷ xs) h = left_from x xs h

module _ {X : Type 0} {R : X → X → Ordering} (total : IsTotalOrder R) where
  distinct : (xs : List X) → AllPairs (λ a b. R a b ≢ Equal) xs → IsDistinct (eq_by_cmp R) xs
  unfolding IsDistinct
  distinct [] h = tt
  distinct (x ∷ xs) h = (by_recursion (λ y. is_eq (R x y) ≡ false) xs (λ i d lt. not_tied (R x (get_or xs i d)) (h 0 (suc i) d (omega arith) (omega arith))), distinct xs (λ i j d lt small. h (suc i) (suc j) d (omega arith) (omega arith)))

  -- a sort of elements of which no two tie
  pub ascending_from_sorted : (elements sorted : List X) → IsPermutation elements sorted → IsSorted R sorted → AllPairs (λ a b. R a b ≢ Equal) elements → IsAscendingOf R elements sorted
  ascending_from_sorted elements sorted moved order apart =
      let laws = eq_by_cmp_equiv total in
      let once = IsDistinct-IsPermutation (eq_by_cmp R) laws.symm elements sorted moved (distinct elements apart) in
      record {
        members = λ x. (Contains-permutation sorted elements x (IsPermutation-sym elements sorted moved), Contains-permutation elements sorted x moved);
        ascending = subst (IsStrictlySortedBy R) (left laws sorted once) (IsStrictlySortedBy-dedup total (λ a b. refl) sorted order);
      }

-- elements that ascend by what is read of them are in order where that is read at their places
pub sorted_places : {X K : Type 0} (cmp : K → K → Ordering) (read : ℕ → K) (key : X → K) (place : X → ℕ) (xs : List X) → All (λ x. key x ≡ read (place x)) xs → IsSorted (λ a b. cmp (key a) (key b)) xs → IsSorted (λ u v. cmp (read u) (read v)) (map place xs)
sorted_places cmp read key place [] alike order k d low lt = absurd (omega (arith, lt))
sorted_places {X} {K} cmp read key place (x ∷ xs) alike order k d low lt =
    let next : k + 1 < length (x ∷ xs) = subst (λ n. k + 1 < n) (length-map (x ∷ xs) place) lt in
    let here : k < length (x ∷ xs) = omega (arith, next) in
    let read_at : (i : ℕ) → i < length (x ∷ xs) → read (get_or (map place (x ∷ xs)) i d) ≡ key (get_or (x ∷ xs) i x) = λ i small. ap read (get_or-map place (x ∷ xs) i x d small) ∙ sym (alike i x small) in
    let same : is_lt (cmp (read (get_or (map place (x ∷ xs)) (k + 1) d)) (read (get_or (map place (x ∷ xs)) k d))) ≡ is_lt (cmp (key (get_or (x ∷ xs) (k + 1) x)) (key (get_or (x ∷ xs) k x))) = λ i. is_lt (cmp (read_at (k + 1) next i) (read_at k here i)) in
    same ∙ order k x low next

untied : (o p : Ordering) → is_eq p ≡ false → o ≡ p → o ≢ Equal
untied o p plain is e = true≢false (sym (ap is_eq e) ∙ ap is_eq is ∙ plain)

-- where a search by halving finds nothing, no element ties
nothing_tied : {X K : Type 0} {cmp : K → K → Ordering} → IsTotalOrder cmp → (read : X → K) (elements sorted : List X) (key : K) (i : ℕ) → IsAscendingOf (λ a b. cmp (read a) (read b)) elements sorted → IsBinarySearchResult (λ x. cmp (read x) key) sorted (Err i) → (x : X) → Contains elements x → cmp (read x) key ≢ Equal
nothing_tied {X} {K} {cmp} total read elements sorted key i up found x inside =
    let parts = found (searchable_from_sorted total read sorted key (sorted_from_strictly (on_total read total) sorted up.ascending)) in
    All-contains (λ y. cmp (read y) key ≢ Equal) sorted x
    (λ k d lt. ⊎_elim (λ before. untied (cmp (read (get_or sorted k d)) key) Less refl (parts.0 k d (omega arith) before)) (λ after. untied (cmp (read (get_or sorted k d)) key) Greater refl (parts.1 k d after lt)) (cases_lt k i))
    ((up.members x).1 inside)

find_none : {X : Type 0} (p : X → Bool) (xs : List X) → ((x : X) → Contains xs x → p x ≡ false) → find p xs ≡ None
find_none p [] fails = refl
find_none p (x ∷ xs) fails = ap (λ b. cond b (Some x) (find p xs)) (fails x (Contains-first x xs)) ∙ find_none p xs (λ y inside. fails y (Contains-rest x xs y inside))

found_here : {X : Type 0} (p : X → Bool) (y : X) (ys : List X) (x : X) (b : Bool) → p y ≡ b → Contains (y ∷ ys) x → p x ≡ true → (p y ≡ true → y ≡ x) → (Contains ys x → find p ys ≡ Some x) → find p (y ∷ ys) ≡ Some x
found_here p y ys x true e inside passes same rest = ap (λ b. cond b (Some y) (find p ys)) e ∙ ap Some (same e)
found_here p y ys x false e inside passes same rest =
    ap (λ b. cond b (Some y) (find p ys)) e ∙ rest (⊎_elim (λ is. absurd (true≢false (sym passes ∙ ap p (sym is) ∙ e))) (λ later. later) (Contains-cons_cases y ys x inside))

find_only : {X : Type 0} (p : X → Bool) (xs : List X) (x : X) → Contains xs x → p x ≡ true → ((y : X) → Contains xs y → p y ≡ true → y ≡ x) → find p xs ≡ Some x
find_only p [] x inside passes only = absurd (Contains-none x inside)
find_only p (y ∷ ys) x inside passes only =
    found_here p y ys x (p y) refl inside passes (only y (Contains-first y ys)) (λ later. find_only p ys x later passes (λ z among. only z (Contains-rest y ys z among)))

each_later : {X : Type 0} (P : X → Type 0) (xs : List X) → AllByRecursion P xs → (y : X) → Contains xs y → P y
each_later P [] h y inside = absurd (Contains-none y inside)
each_later P (x ∷ xs) h y inside = ⊎_elim (λ is. subst P is h.0) (λ later. each_later P xs h.1 y later) (Contains-cons_cases x xs y inside)

-- of elements that ascend no two tie
one_tied : {X : Type 0} {R : X → X → Ordering} → IsTotalOrder R → (xs : List X) → IsStrictlySortedBy R xs → (x y : X) → Contains xs x → Contains xs y → R x y ≡ Equal → x ≡ y
unfolding IsStrictlySortedBy
one_tied total [] up x y inx iny tie = absurd (Contains-none x inx)
one_tied {X} {R} total (k ∷ ks) up x y inx iny tie =
    let below : (z : X) → Contains ks z → R k z ≡ Less = each_later (λ z. R k z ≡ Less) ks up.0 in
    ⊎_elim
    (λ isx. ⊎_elim (λ isy. sym isx ∙ isy) (λ later. absurd (untied (R x y) Less refl (ap (λ z. R z y) (sym isx) ∙ below y later) tie)) (Contains-cons_cases k ks y iny))
    (λ laterx. ⊎_elim (λ isy. absurd (untied (R x y) Greater refl (total.antisymm x y ∙ ap ordering_reverse (ap (λ z. R z x) (sym isy) ∙ below x laterx)) tie)) (λ latery. one_tied total ks up.1 x y laterx latery tie) (Contains-cons_cases k ks y iny))
    (Contains-cons_cases k ks x inx)

module _ {X K : Type 0} {cmp : K → K → Ordering} (total : IsTotalOrder cmp) (read : X → K) (elements sorted : List X) (up : IsAscendingOf (λ a b. cmp (read a) (read b)) elements sorted) (key : K) where
  one_with_key : (x y : X) → Contains elements x → Contains elements y → cmp (read x) key ≡ Equal → cmp (read y) key ≡ Equal → x ≡ y
  one_with_key x y inx iny ex ey =
      one_tied (on_total read total) sorted up.ascending x y ((up.members x).1 inx) ((up.members y).1 iny) (total.congr (read x) key (read y) ex ∙ total.antisymm key (read y) ∙ ap ordering_reverse ey)

  pub nothing_found : (i : ℕ) → IsBinarySearchResult (λ x. cmp (read x) key) sorted (Err i) → find (λ x. eq_by_cmp cmp (read x) key) elements ≡ None
  nothing_found i found = find_none (λ x. eq_by_cmp cmp (read x) key) elements (λ x inside. not_tied (cmp (read x) key) (nothing_tied total read elements sorted key i up found x inside))

  pub something_found : (i : ℕ) (d : X) → i < length sorted → IsBinarySearchResult (λ x. cmp (read x) key) sorted (Ok i) → find (λ x. eq_by_cmp cmp (read x) key) elements ≡ Some (get_or sorted i d)
  something_found i d lt found =
      let here = get_or sorted i d in
      let inside = (up.members here).0 (Contains-get_or sorted i d lt) in
      find_only (λ x. eq_by_cmp cmp (read x) key) elements here inside (ap is_eq (found d)) (λ y among passes. one_with_key y here among inside ((Equal-is (cmp (read y) key)).0 passes) (found d))
