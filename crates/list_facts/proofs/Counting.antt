-- How many elements of a list pass a test.
use Rattle.std.proofs.Common.{◌≡◌, ◌<◌, ◌≤◌, Bool, true, false, cond, List, [], ◌∷◌, length, filter, sym, refl, true≢false, Contains, arith}
use Rattle.list_facts.proofs.Membership.{Contains-none, Contains-cons_elim}

-- how many pass a narrower test
module _ {X : Type 0} (p q : X → Bool) (narrower : (x : X) → q x ≡ true → p x ≡ true) where
  at_most : (x : X) (xs ys : List X) (a b : Bool) → (a ≡ true → b ≡ true) → length xs ≤ length ys → length (cond a (x ∷ xs) xs) ≤ length (cond b (x ∷ ys) ys)
  at_most x xs ys true true h le = omega arith
  at_most x xs ys true false h le = absurd (true≢false (sym (h refl)))
  at_most x xs ys false true h le = omega arith
  at_most x xs ys false false h le = le

  more : (x : X) (xs ys : List X) (a b : Bool) → (a ≡ true → b ≡ true) → length xs < length ys → length (cond a (x ∷ xs) xs) < length (cond b (x ∷ ys) ys)
  more x xs ys true true h lt = omega arith
  more x xs ys true false h lt = absurd (true≢false (sym (h refl)))
  more x xs ys false true h lt = omega arith
  more x xs ys false false h lt = lt

  below : (x : X) (xs ys : List X) (a b : Bool) → a ≡ false → b ≡ true → length xs ≤ length ys → length (cond a (x ∷ xs) xs) < length (cond b (x ∷ ys) ys)
  below x xs ys true b h e le = absurd (true≢false h)
  below x xs ys false true h e le = omega arith
  below x xs ys false false h e le = absurd (true≢false (sym e))

  pub length-filter-le : (xs : List X) → length (filter q xs) ≤ length (filter p xs)
  length-filter-le [] = omega arith
  length-filter-le (x ∷ xs) = at_most x (filter q xs) (filter p xs) (q x) (p x) (narrower x) (length-filter-le xs)

  pub length-filter-lt : (xs : List X) (x : X) → Contains xs x → p x ≡ true → q x ≡ false → length (filter q xs) < length (filter p xs)
  length-filter-lt [] x inside passes fails = absurd (Contains-none x inside)
  length-filter-lt (y ∷ ys) x inside passes fails =
      Contains-cons_elim (λ z. p z ≡ true → q z ≡ false → length (filter q (y ∷ ys)) < length (filter p (y ∷ ys))) y ys (λ e n. below y (filter q ys) (filter p ys) (q y) (p y) n e (length-filter-le ys)) (λ z r e n. more y (filter q ys) (filter p ys) (q y) (p y) (narrower y) (length-filter-lt ys z r e n)) x inside passes fails
