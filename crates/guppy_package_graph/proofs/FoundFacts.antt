-- What a loop has found for the first of a list.
use Rattle.std.proofs.Common.{◌≡◌, ◌∙◌, ℕ, ◌+◌, ◌<◌, ◌≤◌, List, [], ◌∷◌, ◌++◌, Option, Some, Any, ap, sym, subst, get_or, length, map, take}
use Rattle.std.proofs.lemmas.List.{get_or-map, length-map, map-append, take_all, take_more}

module _ {A : Type 0} (f : A → Option ℕ) (xs : List A) (i : ℕ) (ys : List ℕ) (was : map f (take i xs) ≡ map Some ys) where
  -- one more was found
  pub found_more : (d : A) (v : ℕ) (new : List ℕ) → i < length xs → f (get_or xs i d) ≡ Some v → new ≡ ys ++ v ∷ [] → map f (take (i + 1) xs) ≡ map Some new
  found_more d v new lt here is =
      let taken = ap (map f) (take_more xs i d lt) ∙ map-append f (take i xs) (get_or xs i d ∷ []) in
      taken ∙ ap (λ zs. zs ++ f (get_or xs i d) ∷ []) was ∙ ap (λ z. map Some ys ++ z ∷ []) here ∙ sym (map-append Some ys (v ∷ [])) ∙ ap (map Some) (sym is)

  -- all were found
  pub found_all : length xs ≤ i → map f xs ≡ map Some ys
  found_all past = ap (map f) (sym (take_all i xs past)) ∙ was

-- what holds of what is read at a place holds of one of all that is read
pub one_of : {X Y : Type 0} (P : Y → Type 0) (f : X → Y) (xs : List X) (i : ℕ) (d : X) → i < length xs → P (f (get_or xs i d)) → Any P (map f xs)
one_of P f xs i d lt h = (i, f (get_or xs i d), subst (λ n. i < n) (sym (length-map xs f)) lt, get_or-map f xs i d (f (get_or xs i d)) lt, h)
