-- Lists in ascending order, and what a search by halving finds in them.
use Rattle.std.proofs.Common.{◌≡◌, ℕ, ◌+◌, Bool, false, List, length, get_or, true, refl, Result, Ok, Err, is_ok, Ordering, Less, Equal, Greater, sym, ◌∙◌, ap, ⊎_elim, arith}
use Rattle.std.specs.Cmp.{IsTotalOrder}
use Rattle.std.specs.Ordering.{as_partial_cmp, eq_by_cmp, is_lt, is_le, is_eq, ordering_reverse, partial_le}
use Rattle.std.specs.List.{IsAllAdjacentAnswer, list_any}
use Rattle.std.specs.List.Sorted.{IsSorted, IsStrictlySortedBy, IsSearchInRange, IsBinarySearchResult}
use Rattle.std.proofs.lemmas.Bool.{cases_lt, false≢true}
use Rattle.std.proofs.lemmas.List.Folds.{list_any_at, list_any_none}
use Rattle.std.proofs.lemmas.List.Sorted.{searchable_from_sorted}
use Rattle.std.proofs.lemmas.Map.Keys.{Less-from_sorted}

module _ {X : Type 0} {R : X → X → Ordering} (total : IsTotalOrder R) where
  -- what ascends without repeats ascends
  pub sorted_from_strictly : (xs : List X) → IsStrictlySortedBy R xs → IsSorted R xs
  sorted_from_strictly xs up k d low lt =
      ap is_lt (total.antisymm (get_or xs (k + 1) d) (get_or xs k d) ∙ ap ordering_reverse (Less-from_sorted R xs k (k + 1) d up (omega arith) lt))

  not_above : (o : Ordering) → is_le o ≡ true → is_lt (ordering_reverse o) ≡ false
  not_above Less h = refl
  not_above Equal h = refl
  not_above Greater h = absurd (false≢true h)

  -- what `is_sorted` answers yes of ascends
  pub sorted_from_adjacent : (xs : List X) → IsAllAdjacentAnswer (λ x y b. partial_le (as_partial_cmp R) x y ≡ b) xs true → IsSorted R xs
  sorted_from_adjacent xs h k d low lt =
      ap is_lt (total.antisymm (get_or xs (k + 1) d) (get_or xs k d)) ∙ not_above (R (get_or xs k d) (get_or xs (k + 1) d)) (h k d lt)

  module _ {E : X → X → Bool} (ties : (x y : X) → E x y ≡ eq_by_cmp R x y) where
    fails_below : (x y : X) → R y x ≡ Less → E y x ≡ false
    fails_below x y h = ties y x ∙ ap is_eq h

    fails_above : (x y : X) → R y x ≡ Greater → E y x ≡ false
    fails_above x y h = ties y x ∙ ap is_eq h

    -- a search by halving says whether an element is equal
    pub is_ok_from_search : (xs : List X) (x : X) (r : Result ℕ ℕ) → IsSorted R xs → IsSearchInRange r (length xs) → IsBinarySearchResult (λ y. R y x) xs r → is_ok r ≡ list_any (λ y. E y x) xs
    is_ok_from_search xs x (Ok i) up within h =
        sym (list_any_at (λ y. E y x) xs i x within (ties (get_or xs i x) x ∙ ap is_eq (h x)))
    is_ok_from_search xs x (Err i) up within h =
        let parts = h (searchable_from_sorted total (λ y. y) xs x up) in
        sym (list_any_none (λ y. E y x) xs (λ k d lt. ⊎_elim (λ before. fails_below x (get_or xs k d) (parts.0 k d (omega arith) before)) (λ after. fails_above x (get_or xs k d) (parts.1 k d after lt)) (cases_lt k i)))
