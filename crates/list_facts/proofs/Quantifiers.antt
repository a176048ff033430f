-- A test of the elements of a list, against the elements that the list holds.
use Rattle.std.proofs.Common.{◌≡◌, ℕ, zero, suc, ◌+◌, ◌<◌, Bool, true, false, cond, not, ◌||◌, List, [], ◌∷◌, length, map, refl, ap, arith, get_or, ◌↔◌, IsTrue, Any, All, Contains}
use Rattle.std.specs.List.{list_any, position_or_len}
use Rattle.std.proofs.lemmas.List.Elements.{Contains-get_or, All-contains}
use Rattle.std.proofs.lemmas.List.Folds.{Any-from_list_any, list_any-from_Any}

module _ {X : Type 0} (P : X → Type 0) where
  pub Any-from_Contains : (xs : List X) (x : X) → Contains xs x → P x → Any P xs
  Any-from_Contains xs x h holds = (h.0, x, h.1, h.2, holds)

  pub Any_cases : (xs : List X) → Any P xs → (x : X) × Contains xs x × P x
  Any_cases xs h = (h.1, (h.0, h.2, h.3), h.4)

  -- P holds of some element exactly where it holds of a contained one
  pub Any_iff : (xs : List X) → Any P xs ↔ ((x : X) × Contains xs x × P x)
  Any_iff xs = (Any_cases xs, λ h. Any-from_Contains xs h.0 h.1 h.2)

  pub All-from_Contains : (xs : List X) → ((x : X) → Contains xs x → P x) → All P xs
  All-from_Contains xs each k d lt = each (get_or xs k d) (Contains-get_or xs k d lt)

  -- P holds of each element exactly where it holds of each contained one
  pub All_iff : (xs : List X) → All P xs ↔ ((x : X) → Contains xs x → P x)
  All_iff xs = (λ h x inside. All-contains P xs x h inside, All-from_Contains xs)

module _ {X : Type 0} (p : X → Bool) where
  pub list_any-from_Contains : (xs : List X) (x : X) → Contains xs x → p x ≡ true → list_any p xs ≡ true
  list_any-from_Contains xs x h pass = list_any-from_Any p xs (Any-from_Contains (λ y. p y ≡ true) xs x h pass)

  pub list_any_cases : (xs : List X) → list_any p xs ≡ true → (x : X) × Contains xs x × (p x ≡ true)
  list_any_cases xs h = Any_cases (λ y. p y ≡ true) xs (Any-from_list_any p xs h)

  -- the test of a list is true exactly where some contained element passes
  pub list_any_iff : (xs : List X) → IsTrue (list_any p xs) ↔ ((x : X) × Contains xs x × IsTrue (p x))
  list_any_iff xs = (list_any_cases xs, λ h. list_any-from_Contains xs h.0 h.1 h.2)

-- a test of mapped elements
pub list_any-map : {X Y : Type 0} (test : Y → Bool) (f : X → Y) (xs : List X) → list_any test (map f xs) ≡ list_any (λ x. test (f x)) xs
list_any-map test f [] = refl
list_any-map test f (x ∷ xs) = ap (λ b. test (f x) || b) (list_any-map test f xs)

-- where some element passes, the first that does stands before the end
pub ends_before : {X : Type 0} (p : X → Bool) (xs : List X) (k : ℕ) (d : X) → k < length xs → p (get_or xs k d) ≡ true → position_or_len p xs < length xs
ends_before p [] k d lt passes = absurd (omega (arith, lt))
ends_before p (x ∷ xs) zero d lt passes = grind (arith, passes)
ends_before p (x ∷ xs) (suc k) d lt passes = let less = ends_before p xs k d (omega (arith, lt)) passes in grind (arith, less)

step : {X : Type 0} (p : X → Bool) (x : X) (xs : List X) (b : Bool) → p x ≡ b → (position_or_len p xs ≡ length xs → list_any p xs ≡ false) → cond (not b) (1 + position_or_len p xs) 0 ≡ suc (length xs) → (b || list_any p xs) ≡ false
step p x xs true e more h = absurd (omega arith)
step p x xs false e more h = more (omega arith)

-- where the first that passes stands at the end, none passes
pub list_any_from_position_or_len : {X : Type 0} (p : X → Bool) (xs : List X) → position_or_len p xs ≡ length xs → list_any p xs ≡ false
list_any_from_position_or_len p [] h = refl
list_any_from_position_or_len p (x ∷ xs) h = step p x xs (p x) refl (list_any_from_position_or_len p xs) h
