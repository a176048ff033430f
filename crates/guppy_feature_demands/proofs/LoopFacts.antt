-- What a loop has put behind a list for the first elements of another.
use Rattle.std.proofs.Common.{◌≡◌, ℕ, ◌+◌, ◌<◌, ◌≤◌, List, [], ◌∷◌, ◌++◌, append-nil, append_assoc, flat_map, get_or, length, map, take, take_all, ap, sym, ◌∙◌}
use Rattle.list_facts.proofs.Lists.{flat_map-append, flat_map-take_more, map-take_more}

-- what is said of each
module _ {X Z : Type 0} (say : X → List Z) where
  pub each_more : (xs : List X) (i : ℕ) (x : X) → i < length xs → x ≡ get_or xs i x → (old was new : List Z) → was ≡ old ++ flat_map say (take i xs) → new ≡ was ++ say x → new ≡ old ++ flat_map say (take (i + 1) xs)
  each_more xs i x within at old was new so_far pushed =
      pushed ∙ (λ j. so_far j ++ say (at j)) ∙ append_assoc old (flat_map say (take i xs)) (say (get_or xs i x)) ∙ ap (λ zs. old ++ zs) (sym (flat_map-take_more say xs i x within))

  pub each_all : (xs : List X) (i : ℕ) (old new : List Z) → length xs ≤ i → new ≡ old ++ flat_map say (take i xs) → new ≡ old ++ flat_map say xs
  each_all xs i old new past so_far = so_far ∙ ap (λ ys. old ++ flat_map say ys) (take_all i xs past)

-- what is said of what is seen of each
module _ {X Y Z : Type 0} (say : Y → List Z) (see : X → Y) where
  pub said_more : (xs : List X) (i : ℕ) (x : X) → i < length xs → x ≡ get_or xs i x → (old was new : List Z) → was ≡ old ++ flat_map say (map see (take i xs)) → new ≡ was ++ say (see x) → new ≡ old ++ flat_map say (map see (take (i + 1) xs))
  said_more xs i x within at old was new so_far pushed =
      let seen = map see (take i xs) in
      let next = see (get_or xs i x) in
      let more : flat_map say (map see (take (i + 1) xs)) ≡ flat_map say seen ++ say next = ap (flat_map say) (map-take_more see xs i x within) ∙ flat_map-append say seen (next ∷ []) ∙ ap (λ zs. flat_map say seen ++ zs) (append-nil (say next)) in
      pushed ∙ (λ j. so_far j ++ say (see (at j))) ∙ append_assoc old (flat_map say seen) (say next) ∙ ap (λ zs. old ++ zs) (sym more)

  pub said_all : (xs : List X) (i : ℕ) (old new : List Z) → length xs ≤ i → new ≡ old ++ flat_map say (map see (take i xs)) → new ≡ old ++ flat_map say (map see xs)
  said_all xs i old new past so_far = so_far ∙ ap (λ ys. old ++ flat_map say (map see ys)) (take_all i xs past)
