-- Lists in ascending order with each element once.
use Rattle.std.proofs.Common.{◌≡◌, ℕ, Bool, true, false, cond, List, [], ◌∷◌, map, refl, sym, ◌∙◌, ap, subst, ⊎_elim, ◌↔◌, Ordering, Less, Equal, Greater, IsPermutation, IsSorted, Contains, IsTrue, ◌&&◌, nat_eq}
use Rattle.std.specs.Cmp.{IsTotalOrder, eq_by_cmp_equiv, both_tied}
use Rattle.std.specs.Ordering.{eq_by_cmp, match_ordering}
use Rattle.std.specs.Cmp.Lexicographic.{nat_list_cmp_total, pointwise, texts_ties}
use Rattle.std.specs.List.Retain.{IsFiltered, DiffersFromLast}
use Rattle.std.proofs.lemmas.List.Filters.{dedup_is}
use Rattle.std.specs.List.{dedup, dedup_from, AllByRecursion}
use Rattle.std.specs.List.Sorted.{IsStrictlySortedBy}
use Rattle.std.specs.BTreeSet.{BTreeSet, insert_key, contains}
use Rattle.std.proofs.lemmas.Cmp.{on_total, then_total}
use Rattle.std.proofs.lemmas.List.Kept.{IsStrictlySortedBy-dedup, Contains-dedup, Contains-from_dedup}
use Rattle.std.proofs.lemmas.List.Sorted.{IsPermutation-map, IsPermutation-sym, Contains-permutation}
use Rattle.std.proofs.lemmas.Map.Lookups.{CmpEqualImpliesEq, exact_bytes, exact_pairs, btree_set_from_contains}
use Rattle.std.proofs.lemmas.Map.Views.{tells_apart, btree_set_contains_iff}
use Rattle.list_facts.specs.Ascending.{IsAscendingOf, text_cmp, pair_cmp}
use Rattle.list_facts.proofs.Membership.{Contains-first, Contains-rest, Contains-cons_cases}

pub text_total : IsTotalOrder text_cmp
text_total = nat_list_cmp_total

pub text_exact : CmpEqualImpliesEq text_cmp
text_exact = exact_bytes

pub pair_total : IsTotalOrder pair_cmp
pair_total = then_total (on_total (λ p. p.0) text_total) (on_total (λ p. p.1) text_total)

pub pair_exact : CmpEqualImpliesEq pair_cmp
pair_exact = exact_pairs text_cmp text_cmp text_exact text_exact

-- An order of the elements by what f gives of each.
module _ {X Y : Type 0} (f : X → Y) (cmp : Y → Y → Ordering) where
  placed : (o : Ordering) (ks js ls : List X) → map f (match_ordering o ks js ls) ≡ match_ordering o (map f ks) (map f js) (map f ls)
  placed Less ks js ls = refl
  placed Equal ks js ls = refl
  placed Greater ks js ls = refl

  pub map-insert_key : (ks : List X) (k : X) → map f (insert_key (λ a b. cmp (f a) (f b)) ks k) ≡ insert_key cmp (map f ks) (f k)
  map-insert_key [] k = refl
  map-insert_key (x ∷ xs) k =
      placed (cmp (f k) (f x)) (k ∷ x ∷ xs) (x ∷ xs) (x ∷ insert_key (λ a b. cmp (f a) (f b)) xs k) ∙ ap (λ ys. match_ordering (cmp (f k) (f x)) (f k ∷ f x ∷ map f xs) (f x ∷ map f xs) (f x ∷ ys)) (map-insert_key xs k)

  below-map : (x : X) (xs : List X) → AllByRecursion (λ y. cmp (f x) (f y) ≡ Less) xs → AllByRecursion (λ y. cmp (f x) y ≡ Less) (map f xs)
  below-map x [] h = h
  below-map x (y ∷ ys) h = (h.0, below-map x ys h.1)

  pub sorted-map : (ks : List X) → IsStrictlySortedBy (λ a b. cmp (f a) (f b)) ks → IsStrictlySortedBy cmp (map f ks)
  unfolding IsStrictlySortedBy
  sorted-map [] h = h
  sorted-map (x ∷ xs) h = (below-map x xs h.0, sorted-map xs h.1)

module _ {X Y : Type 0} (f : X → Y) (same : Y → Y → Bool) where
  deduped : (b : Bool) (xs ys : List X) → map f (cond b xs ys) ≡ cond b (map f xs) (map f ys)
  deduped true xs ys = refl
  deduped false xs ys = refl

  map-dedup_from : (k : X) (xs : List X) → map f (dedup_from (λ a b. same (f a) (f b)) k xs) ≡ dedup_from same (f k) (map f xs)
  map-dedup_from k [] = refl
  map-dedup_from k (x ∷ xs) =
      deduped (same (f x) (f k)) (dedup_from (λ a b. same (f a) (f b)) k xs) (k ∷ dedup_from (λ a b. same (f a) (f b)) x xs) ∙ ap (λ ys. cond (same (f x) (f k)) ys (f k ∷ map f (dedup_from (λ a b. same (f a) (f b)) x xs))) (map-dedup_from k xs) ∙ ap (λ ys. cond (same (f x) (f k)) (dedup_from same (f k) (map f xs)) (f k ∷ ys)) (map-dedup_from x xs)

  pub map-dedup : (xs : List X) → map f (dedup (λ a b. same (f a) (f b)) xs) ≡ dedup same (map f xs)
  map-dedup [] = refl
  map-dedup (x ∷ xs) = map-dedup_from x xs

same_test : (s t : Bool) → (s ≡ true → t ≡ true) → (t ≡ true → s ≡ true) → s ≡ t
same_test true t there back = sym (there refl)
same_test false true there back = back refl
same_test false false there back = refl

module _ {X : Type 0} {cmp : X → X → Ordering} (total : IsTotalOrder cmp) (exact : CmpEqualImpliesEq cmp) where
  inserted : (o : Ordering) (k x : X) (xs ys : List X) (y : X) → (o ≡ Equal → k ≡ x) → (Contains (k ∷ xs) y → Contains ys y) → Contains (k ∷ x ∷ xs) y → Contains (match_ordering o (k ∷ x ∷ xs) (x ∷ xs) (x ∷ ys)) y
  inserted Less k x xs ys y tie more h = h
  inserted Equal k x xs ys y tie more h =
      ⊎_elim (λ e. subst (λ z. Contains (x ∷ xs) z) (sym (tie refl) ∙ e) (Contains-first x xs)) (λ r. r) (Contains-cons_cases k (x ∷ xs) y h)
  inserted Greater k x xs ys y tie more h =
      ⊎_elim (λ e. Contains-rest x ys y (more (subst (λ z. Contains (k ∷ xs) z) e (Contains-first k xs)))) (λ r. ⊎_elim (λ e. subst (λ z. Contains (x ∷ ys) z) e (Contains-first x ys)) (λ i. Contains-rest x ys y (more (Contains-rest k xs y i))) (Contains-cons_cases x xs y r)) (Contains-cons_cases k (x ∷ xs) y h)

  -- what is put in or was there is in
  pub Contains-insert_key : (xs : List X) (k y : X) → Contains (k ∷ xs) y → Contains (insert_key cmp xs k) y
  Contains-insert_key [] k y h = h
  Contains-insert_key (x ∷ xs) k y h = inserted (cmp k x) k x xs (insert_key cmp xs k) y (exact k x) (Contains-insert_key xs k y) h

  taken : (o : Ordering) (k x : X) (xs ys : List X) (y : X) → (Contains ys y → Contains (k ∷ xs) y) → Contains (match_ordering o (k ∷ x ∷ xs) (x ∷ xs) (x ∷ ys)) y → Contains (k ∷ x ∷ xs) y
  taken Less k x xs ys y more h = h
  taken Equal k x xs ys y more h = Contains-rest k (x ∷ xs) y h
  taken Greater k x xs ys y more h =
      ⊎_elim (λ e. Contains-rest k (x ∷ xs) y (subst (λ z. Contains (x ∷ xs) z) e (Contains-first x xs))) (λ r. ⊎_elim (λ e. subst (λ z. Contains (k ∷ x ∷ xs) z) e (Contains-first k (x ∷ xs))) (λ i. Contains-rest k (x ∷ xs) y (Contains-rest x xs y i)) (Contains-cons_cases k xs y (more r))) (Contains-cons_cases x ys y h)

  -- what is in was put in or was there
  pub Contains-insert_key_cases : (xs : List X) (k y : X) → Contains (insert_key cmp xs k) y → Contains (k ∷ xs) y
  Contains-insert_key_cases [] k y h = h
  Contains-insert_key_cases (x ∷ xs) k y h = taken (cmp k x) k x xs (insert_key cmp xs k) y (Contains-insert_key_cases xs k y) h

  -- at most one list is the ascending one of these elements
  pub one_ascending : (elements a b : List X) → IsAscendingOf cmp elements a → IsAscendingOf cmp elements b → a ≡ b
  one_ascending elements a b p q =
      let s : BTreeSet X = record { keys = a } in
      let t : BTreeSet X = record { keys = b } in
      let there : (x : X) → IsTrue (contains cmp s x) → IsTrue (contains cmp t x) = λ x h. (btree_set_contains_iff total exact t x).1 ((q.members x).1 ((p.members x).0 ((btree_set_contains_iff total exact s x).0 h))) in
      let back : (x : X) → IsTrue (contains cmp t x) → IsTrue (contains cmp s x) = λ x h. (btree_set_contains_iff total exact s x).1 ((p.members x).1 ((q.members x).0 ((btree_set_contains_iff total exact t x).0 h))) in
      btree_set_from_contains total s t p.ascending q.ascending (λ x. same_test (contains cmp s x) (contains cmp t x) (there x) (back x)) exact

-- A sort and then a removal of repeats, where f shows each element as the order sees it.
module _ {X Y : Type 0} (f : X → Y) (cmp : Y → Y → Ordering) (total : IsTotalOrder cmp) (exact : CmpEqualImpliesEq cmp) where
  deduped_members : (elements sorted : List X) → IsPermutation elements sorted → (y : Y) → Contains (dedup (eq_by_cmp cmp) (map f sorted)) y ↔ Contains (map f elements) y
  deduped_members elements sorted moved y =
      let there = IsPermutation-map f elements sorted moved in
      let back = IsPermutation-sym (map f elements) (map f sorted) there in (
        λ h. Contains-permutation (map f sorted) (map f elements) y back (Contains-from_dedup (eq_by_cmp cmp) (map f sorted) y h),
        λ h. Contains-dedup (eq_by_cmp_equiv total) (tells_apart exact) (map f sorted) y (Contains-permutation (map f elements) (map f sorted) y there h),
      )

  -- what is left of the sorted elements without repeats is their ascending list
  pub ascending_of : (elements sorted kept : List X) → IsPermutation elements sorted → IsSorted (λ a b. cmp (f a) (f b)) sorted → kept ≡ dedup (λ a b. eq_by_cmp cmp (f a) (f b)) sorted → IsAscendingOf cmp (map f elements) (map f kept)
  ascending_of elements sorted kept moved order is = record {
    members = λ y. subst (λ ys. Contains ys y ↔ Contains (map f elements) y) (sym (ap (map f) is ∙ map-dedup f (eq_by_cmp cmp) sorted)) (deduped_members elements sorted moved y);
    ascending = subst (λ ks. IsStrictlySortedBy cmp (map f ks)) (sym is) (sorted-map f cmp (dedup (λ a b. eq_by_cmp cmp (f a) (f b)) sorted) (IsStrictlySortedBy-dedup (on_total f total) (λ a b. refl) sorted order));
  }

  -- the same of `sort` and `dedup` of a `Vec`, where the test of `dedup` is true just where the order ties
  pub ascending_of_sort : (test : X → X → Bool) → ((a b : X) → test a b ≡ eq_by_cmp cmp (f a) (f b)) → (elements sorted kept : List X) → IsPermutation elements sorted → IsSorted (λ a b. cmp (f a) (f b)) sorted → IsFiltered (DiffersFromLast test) [] sorted kept → IsAscendingOf cmp (map f elements) (map f kept)
  ascending_of_sort test ties elements sorted kept moved order left =
      ascending_of elements sorted kept moved order (dedup_is test sorted kept left ∙ ap (λ (t : X → X → Bool). dedup t sorted) (λ i a b. ties a b i))

-- `==` of texts and of pairs of texts, against their orders
pub texts_tie : (a b : List ℕ) → pointwise nat_eq a b ≡ eq_by_cmp text_cmp a b
texts_tie = texts_ties

pub pairs_tie : (a b : List ℕ × List ℕ) → (pointwise nat_eq a.0 b.0 && pointwise nat_eq a.1 b.1) ≡ eq_by_cmp pair_cmp a b
pairs_tie a b = both_tied _ _ (text_cmp a.0 b.0) (text_cmp a.1 b.1) (texts_ties a.0 b.0) (texts_ties a.1 b.1)

-- lists with the same elements have the same ascending list
pub ascending_same : {X : Type 0} {cmp : X → X → Ordering} (elements others sorted : List X) → ((x : X) → Contains elements x ↔ Contains others x) → IsAscendingOf cmp elements sorted → IsAscendingOf cmp others sorted
ascending_same elements others sorted same p = record {
  members = λ x. (λ h. (same x).0 ((p.members x).0 h), λ h. (p.members x).1 ((same x).1 h));
  ascending = p.ascending;
}
