-- The places of those elements of a list that pass a test.
use Rattle.std.proofs.Common.{rules, ◌≡◌, ◌∙◌, ⊎_elim, ℕ, zero, suc, ◌+◌, ◌<◌, Bool, true, false, ◌++◌, [], ◌∷◌, List, Some, All, Contains, filter, length, take, get_or, slice_get, append-nil, ap, sym, subst, refl, arith}
use Rattle.std.specs.List.{cons_option, filter_map, list_any}
use Rattle.std.specs.List.Sorted.{IsStrictlyIncreasing}
use Rattle.std.proofs.Math.Seq.{get_or-append_seam}
use Rattle.std.proofs.lemmas.List.{take_more, get_or_append_left, length-append}
use Rattle.std.proofs.lemmas.List.Elements.{All-append, filter-append, filter_map-append}
use Rattle.std.proofs.lemmas.Bool.{cases_lt, false_from_ne_true}
use Rattle.std.proofs.lemmas.Option.{get_or_from_slice_get, slice_get_cases, slice_get_within}
use Rattle.list_facts.proofs.Membership.{Contains-filter, Contains-filter_cases, Contains-first, Contains-none}
use Rattle.list_facts.proofs.Quantifiers.{list_any-from_Contains, list_any_cases}

-- the places up to here of the elements that pass
pub record ArePlaces {X : Type 0} (p : X → Bool) (xs : List X) (upto : ℕ) (places : List ℕ) : Type 0 where
  pub below : All (λ i. i < upto) places
  pub ascending : IsStrictlyIncreasing places
  pub picked : filter_map (slice_get xs) places ≡ filter p (take upto xs)

-- numbers that ascend, and one above them
pub ascending_more : (places : List ℕ) (i : ℕ) → All (λ k. k < i) places → IsStrictlyIncreasing places → IsStrictlyIncreasing (places ++ i ∷ [])
ascending_more places i below up k lt =
    let within : k + 1 < length places + 1 = subst (λ n. k + 1 < n) (length-append places (i ∷ [])) lt in
    ⊎_elim
    (λ inside.
    let here = get_or_append_left places (i ∷ []) 0 k (omega (arith, inside)) in
    let next = get_or_append_left places (i ∷ []) 0 (k + 1) inside in
    rw (here, next) (up k inside))
    (λ last.
    let end : k + 1 ≡ length places = omega (arith, last, within) in
    let here = get_or_append_left places (i ∷ []) 0 k (omega (arith, end)) in
    let next : get_or (places ++ i ∷ []) (k + 1) 0 ≡ i = ap (λ n. get_or (places ++ i ∷ []) n 0) end ∙ get_or-append_seam places i [] 0 in
    rw (here, next) (below k 0 (omega (arith, end))))
    (cases_lt (k + 1) (length places))

All-one : (P : ℕ → Type 0) (i : ℕ) → P i → All P (i ∷ [])
All-one P i h zero d lt = h
All-one P i h (suc k) d lt = absurd (omega (arith, lt))

module _ {X : Type 0} (p : X → Bool) where
  passes_alone : (x : X) → p x ≡ true → filter p (x ∷ []) ≡ x ∷ []
  passes_alone x e = search (rules, e)

  fails_alone : (x : X) → p x ≡ false → filter p (x ∷ []) ≡ []
  fails_alone x e = search (rules, e)

-- those that pass of one element more
pub filter_more : {X : Type 0} (p : X → Bool) (xs : List X) (i : ℕ) (x : X) → slice_get xs i ≡ Some x → filter p (take (i + 1) xs) ≡ filter p (take i xs) ++ filter p (x ∷ [])
filter_more p xs i x is = ap (filter p) (take_more xs i x (slice_get_within xs i x is)) ∙ filter-append p (take i xs) (get_or xs i x ∷ []) ∙ ap (λ y. filter p (take i xs) ++ filter p (y ∷ [])) (get_or_from_slice_get xs i x x is)

module _ {X : Type 0} (p : X → Bool) (xs : List X) where
  pub places_begin : ArePlaces p xs 0 []
  places_begin = record { below = λ k d lt. absurd (omega (arith, lt)); ascending = λ k lt. absurd (omega (arith, lt)); picked = refl }

  module _ (i : ℕ) (x : X) (is : slice_get xs i ≡ Some x) (places : List ℕ) (before : ArePlaces p xs i places) where
    pub place_left : p x ≡ false → ArePlaces p xs (i + 1) places
    place_left fails = record {
      below = λ k d lt. let h = before.below k d lt in omega (arith, h);
      ascending = before.ascending;
      picked = before.picked ∙ sym (filter_more p xs i x is ∙ ap (λ ys. filter p (take i xs) ++ ys) (fails_alone p x fails) ∙ append-nil (filter p (take i xs)));
    }

    pub place_added : p x ≡ true → ArePlaces p xs (i + 1) (places ++ i ∷ [])
    place_added passes = record {
      below = All-append (λ k. k < i + 1) places (i ∷ []) (λ k d lt. let h = before.below k d lt in omega (arith, h)) (All-one (λ k. k < i + 1) i (omega arith));
      ascending = ascending_more places i before.below before.ascending;
      picked = filter_map-append (slice_get xs) places (i ∷ []) ∙ ap (λ o. filter_map (slice_get xs) places ++ cons_option o []) is ∙ ap (λ ys. ys ++ x ∷ []) before.picked ∙ sym (filter_more p xs i x is ∙ ap (λ ys. filter p (take i xs) ++ ys) (passes_alone p x passes));
    }

module _ {X : Type 0} (p : X → Bool) (xs : List X) where
  none_passes : filter p xs ≡ [] → list_any p xs ≡ false
  none_passes none = false_from_ne_true (list_any p xs) (λ e. let found = list_any_cases p xs e in Contains-none found.0 (subst (λ ys. Contains ys found.0) none (Contains-filter p xs found.0 found.1 found.2)))

  one_passes : (x : X) (ys : List X) → x ∷ ys ≡ filter p xs → list_any p xs ≡ true
  one_passes x ys e = let found = Contains-filter_cases p xs x (subst (λ zs. Contains zs x) e (Contains-first x ys)) in list_any-from_Contains p xs x found.0 found.1

  -- there is no place where no element passes
  pub places_none : (places : List ℕ) → length places ≡ 0 → filter_map (slice_get xs) places ≡ filter p xs → list_any p xs ≡ false
  places_none [] none picked = none_passes (sym picked)
  places_none (i ∷ places) none picked = absurd (omega (arith, none))

  -- and there are places where one does
  pub places_some : (places : List ℕ) → 0 < length places → All (λ i. i < length xs) places → filter_map (slice_get xs) places ≡ filter p xs → list_any p xs ≡ true
  places_some [] some within picked = absurd (omega (arith, some))
  places_some (i ∷ places) some within picked =
      ⊎_elim
      (λ (x, lt, is, at). one_passes x (filter_map (slice_get xs) places) (sym (ap (λ o. cons_option o (filter_map (slice_get xs) places)) is) ∙ picked))
      (λ (past, none). let lt : i < length xs = within 0 i (omega arith) in absurd (omega (arith, past, lt)))
      (slice_get_cases xs i).1
