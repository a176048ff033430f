-- Lines that pass several tests, one after another.
use Rattle.std.proofs.Common.{◌≡◌, Bool, true, false, cond, ◌&&◌, ◌||◌, List, [], ◌∷◌, length, nat_lt, filter, refl, ◌∙◌, ap, arith}
use Rattle.std.proofs.lemmas.Bool.Decides.{nat_tests}
use Rattle.std.specs.List.{list_any}
use Rattle.list_facts.proofs.Lists.{filter-filter}

-- what passes three tests
pub filter-filter-filter : {X : Type 0} (p q r : X → Bool) (xs : List X) → filter p (filter q (filter r xs)) ≡ filter (λ x. (r x && q x) && p x) xs
filter-filter-filter p q r xs = ap (filter p) (filter-filter q r xs) ∙ filter-filter p (λ x. r x && q x) xs

pub filter-true : {X : Type 0} (xs : List X) → filter (λ _. true) xs ≡ xs
filter-true [] = refl
filter-true (x ∷ xs) = ap (λ ys. x ∷ ys) (filter-true xs)

module _ {X : Type 0} (p q : X → Bool) where
  kept_none : (x : X) (xs ys : List X) (b c : Bool) → cond b (x ∷ xs) xs ≡ [] → (xs ≡ [] → ys ≡ []) → cond (c && b) (x ∷ ys) ys ≡ []
  kept_none x xs ys true c h rest = cc
  kept_none x xs ys false true h rest = rest h
  kept_none x xs ys false false h rest = rest h

  none_of_both : (xs : List X) → filter p xs ≡ [] → filter (λ x. q x && p x) xs ≡ []
  none_of_both [] h = refl
  none_of_both (x ∷ xs) h = kept_none x (filter p xs) (filter (λ y. q y && p y) xs) (p x) (q x) h (none_of_both xs)

  -- where nothing passes a test, nothing of a part does
  pub filter-none : (xs : List X) → filter p xs ≡ [] → filter p (filter q xs) ≡ []
  filter-none xs h = filter-filter p q xs ∙ none_of_both xs h

module _ {X : Type 0} (p : X → Bool) where
  one_kept : (x : X) (xs : List X) (b c : Bool) → c ≡ nat_lt 0 (length xs) → (b || c) ≡ nat_lt 0 (length (cond b (x ∷ xs) xs))
  one_kept x xs true c h = grind (arith, nat_tests)
  one_kept x xs false c h = h

  -- some element passes a test just where a filter by it keeps one
  pub list_any-filter : (xs : List X) → list_any p xs ≡ nat_lt 0 (length (filter p xs))
  list_any-filter [] = refl
  list_any-filter (x ∷ xs) = one_kept x (filter p xs) (p x) (list_any p xs) (list_any-filter xs)
