-- What is left of a filter for the tests of one binary.
use Rattle.std.proofs.Common.{◌≡◌, ◌∙◌, ◌<◌, ℕ, sym, ap, List, length, map, slice_index_or, slice_set}
use Rattle.std.proofs.lemmas.List.{map-set, set-get_or, get_or-map}

-- an element that is replaced by one that is seen alike
pub seen_alike : {X Y : Type 0} (f : X → Y) (xs : List X) (k : ℕ) (x y : X) → k < length xs → f y ≡ f (slice_index_or xs k x) → map f (slice_set xs k y) ≡ map f xs
seen_alike f xs k x y lt e =
    let same : f y ≡ slice_index_or (map f xs) k (f x) = e ∙ sym (get_or-map f xs k x (f x) lt) in
    map-set f xs k y ∙ ap (slice_set (map f xs) k) same ∙ set-get_or (map f xs) k (f x)
