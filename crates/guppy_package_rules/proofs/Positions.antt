-- The first place of a list at which a test passes.
use Rattle.std.proofs.Common.{◌≡◌, ℕ, zero, suc, ◌+◌, ◌<◌, Bool, true, false, not, ◌||◌, cond, List, [], ◌∷◌, Option, Some, None, length, get_or, take, map, refl, ◌∙◌, ap, position, nat_lt, arith}
use Rattle.std.specs.List.{list_any, position_or_len}
use Rattle.std.proofs.lemmas.Bool.Decides.{nat_tests}
use Rattle.std.proofs.lemmas.List.{length-map}

either_false : (a b : Bool) → (a || b) ≡ false → (a ≡ false) × (b ≡ false)
either_false true b e = absurd cc
either_false false b e = (refl, e)

abbrev within : ℕ → ℕ → Option ℕ
within n m = cond (nat_lt n m) (Some n) None

within_some : (n m : ℕ) → n < m → within n m ≡ Some n
within_some n m lt = grind (arith, nat_tests)

within_none : (n m : ℕ) → n ≡ m → within n m ≡ None
within_none n m e = grind (arith, nat_tests)

module _ {X : Type 0} (p : X → Bool) where
  past_failure : (x : X) (xs : List X) → p x ≡ false → position_or_len p (x ∷ xs) ≡ suc (position_or_len p xs)
  past_failure x xs e =
      let next : 1 + position_or_len p xs ≡ suc (position_or_len p xs) = omega arith in
      ap (λ b. cond (not b) (1 + position_or_len p xs) 0) e ∙ next

  none_passes : (xs : List X) → list_any p xs ≡ false → position_or_len p xs ≡ length xs
  none_passes [] e = refl
  none_passes (x ∷ xs) e =
      let both = either_false (p x) (list_any p xs) e in past_failure x xs both.0 ∙ ap suc (none_passes xs both.1)

  passes_at : (xs : List X) (i : ℕ) (d : X) → i < length xs → list_any p (take i xs) ≡ false → p (get_or xs i d) ≡ true → position_or_len p xs ≡ i
  passes_at [] i d lt none pass = absurd (omega arith)
  passes_at (x ∷ xs) zero d lt none pass = ap (λ b. cond (not b) (1 + position_or_len p xs) 0) pass
  passes_at (x ∷ xs) (suc i) d lt none pass =
      let both = either_false (p x) (list_any p (take i xs)) none in
      past_failure x xs both.0 ∙ ap suc (passes_at xs i d (omega arith) both.1 pass)

  pub no_position : (xs : List X) → list_any p xs ≡ false → position p xs ≡ None
  no_position xs e = within_none (position_or_len p xs) (length xs) (none_passes xs e)

  pub position_at : (xs : List X) (i : ℕ) (d : X) → i < length xs → list_any p (take i xs) ≡ false → p (get_or xs i d) ≡ true → position p xs ≡ Some i
  position_at xs i d lt none pass =
      ap (λ n. within n (length xs)) (passes_at xs i d lt none pass) ∙ within_some i (length xs) lt

module _ {X Y : Type 0} (p : Y → Bool) (f : X → Y) where
  position_or_len-map : (xs : List X) → position_or_len p (map f xs) ≡ position_or_len (λ x. p (f x)) xs
  position_or_len-map [] = refl
  position_or_len-map (x ∷ xs) = ap (λ n. cond (not (p (f x))) (1 + n) 0) (position_or_len-map xs)

  pub position-map : (xs : List X) → position p (map f xs) ≡ position (λ x. p (f x)) xs
  position-map xs =
      ap (λ n. within n (length (map f xs))) (position_or_len-map xs) ∙ ap (within (position_or_len (λ x. p (f x)) xs)) (length-map xs f)
