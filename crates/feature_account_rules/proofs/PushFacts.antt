-- What a loop has pushed behind a list, for the first elements of another.
use Rattle.std.proofs.Common.{◌≡◌, ℕ, ◌+◌, ◌<◌, ◌≤◌, List, [], ◌∷◌, ◌++◌, get_or, length, map, take, ap, append_assoc, sym, ◌∙◌}
use Rattle.std.proofs.lemmas.List.{map-append, take_all, take_more}

-- what two lists give is what the first gives and what the second does
abbrev pub GivesByParts : {X Y : Type 0} → (List X → List Y) → Type 0
GivesByParts {X} give = (xs ys : List X) → give (xs ++ ys) ≡ give xs ++ give ys

-- so it is after a map
pub parts_of_map : {X Y Z : Type 0} (give : List Y → List Z) (f : X → Y) → GivesByParts give → GivesByParts (λ xs. give (map f xs))
parts_of_map give f parts xs ys = ap give (map-append f xs ys) ∙ parts (map f xs) (map f ys)

-- what the element at the place gives was pushed behind what those before it give
pub pushed_more : {X Y : Type 0} (give : List X → List Y) → GivesByParts give → (old was new more : List Y) (xs : List X) (i : ℕ) (x : X) → i < length xs → x ≡ get_or xs i x → was ≡ old ++ give (take i xs) → new ≡ was ++ more → more ≡ give (x ∷ []) → new ≡ old ++ give (take (i + 1) xs)
pushed_more give parts old was new more xs i x within at so_far pushed is =
    let before = take i xs in
    let taken : before ++ x ∷ [] ≡ take (i + 1) xs = ap (λ y. before ++ y ∷ []) at ∙ sym (take_more xs i x within) in
    pushed ∙ (λ j. so_far j ++ is j) ∙ append_assoc old (give before) (give (x ∷ [])) ∙ ap (λ ys. old ++ ys) (sym (parts before (x ∷ [])) ∙ ap give taken)

-- what all give was pushed
pub pushed_all : {X Y : Type 0} (give : List X → List Y) (old was : List Y) (xs : List X) (i : ℕ) → length xs ≤ i → was ≡ old ++ give (take i xs) → was ≡ old ++ give xs
pushed_all give old was xs i past so_far = so_far ∙ ap (λ ys. old ++ give ys) (take_all i xs past)
