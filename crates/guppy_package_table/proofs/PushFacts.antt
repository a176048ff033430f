-- What a loop has made of the first elements of a list.
use Rattle.std.proofs.Common.{◌≡◌, ℕ, ◌+◌, ◌<◌, ◌≤◌, List, [], ◌∷◌, ◌++◌, length, get_or, map, take, take_all, ap, sym, ◌∙◌}
use Rattle.list_facts.proofs.Lists.{map-take_more}

module _ {X Y : Type 0} (f : X → Y) where
  -- what the element at the place gives is pushed behind what those before it give
  pub mapped_more : (xs : List X) (i : ℕ) (x : X) → i < length xs → x ≡ get_or xs i x → (was new : List Y) (y : Y) → was ≡ map f (take i xs) → new ≡ was ++ y ∷ [] → y ≡ f x → new ≡ map f (take (i + 1) xs)
  mapped_more xs i x within at was new y so_far pushed is =
      pushed ∙ (λ j. so_far j ++ is j ∷ []) ∙ ap (λ z. map f (take i xs) ++ f z ∷ []) at ∙ sym (map-take_more f xs i x within)

  -- and what all give
  pub mapped_all : (xs : List X) (i : ℕ) (was : List Y) → length xs ≤ i → was ≡ map f (take i xs) → was ≡ map f xs
  mapped_all xs i was past so_far = so_far ∙ ap (map f) (take_all i xs past)
