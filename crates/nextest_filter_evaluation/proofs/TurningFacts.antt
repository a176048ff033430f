-- The end of a list turned round in place.
use Rattle.std.proofs.Common.{◌≡◌, ◌∙◌, ◌-◌, ℕ, refl, sym, ap, subst, arith, List, [], ◌∷◌, ◌++◌, length, map, reverse, take, drop}
use Rattle.std.proofs.lemmas.List.{append-nil, drop-map, length-append, length-drop, length-reverse, map-append, reverse-append, reverse-reverse, take-append-drop}
use Rattle.std.proofs.Math.Seq.{drop-append_seam, drop-length, take-append_seam, take-length}
use Rattle.std.specs.List.{take-map}

map_reversed : {X Y : Type 0} (f : X → Y) (xs : List X) → map f (reverse xs) ≡ reverse (map f xs)
map_reversed f [] = refl
map_reversed f (x ∷ xs) =
    ap (map f) (reverse-append (x ∷ []) xs) ∙ map-append f (reverse xs) (x ∷ []) ∙ ap (λ ys. ys ++ f x ∷ []) (map_reversed f xs) ∙ sym (reverse-append (f x ∷ []) (map f xs))

-- what was put behind the list in reverse stands in order once that part is turned round
pub part_turned : {X Y : Type 0} (f : X → Y) (all part_of turned more : List X) (from len count : ℕ) (old added : List Y) → part_of ≡ all → len ≡ length all → from ≡ length old → count ≡ length part_of - from → map f all ≡ old ++ reverse added → turned ≡ reverse (take count (drop from part_of)) → map f (take len ((take from part_of ++ (turned ++ drop count (drop from part_of))) ++ more)) ≡ old ++ added
part_turned f all d r more n len k old added d_is len_is n_is k_is pushed r_is =
    let long : length (drop n d) ≡ k = length-drop n d ∙ sym k_is in
    let tail : take k (drop n d) ≡ drop n d = subst (λ j. take j (drop n d) ≡ drop n d) long (take-length (drop n d)) in
    let none : drop k (drop n d) ≡ [] = subst (λ j. drop j (drop n d) ≡ []) long (drop-length (drop n d)) in
    let turned : r ++ drop k (drop n d) ≡ reverse (drop n d) = ap (λ q. r ++ q) none ∙ append-nil r ∙ r_is ∙ ap reverse tail in
    let size : length (take n d ++ reverse (drop n d)) ≡ len = omega (arith, length-append (take n d) (reverse (drop n d)), length-reverse (drop n d), length-append (take n d) (drop n d), ap length (take-append-drop n d), ap length d_is, len_is) in
    let cut : take len ((take n d ++ reverse (drop n d)) ++ more) ≡ take n d ++ reverse (drop n d) = subst (λ j. take j ((take n d ++ reverse (drop n d)) ++ more) ≡ take n d ++ reverse (drop n d)) size (take-append_seam (take n d ++ reverse (drop n d)) more) in
    let seen : map f d ≡ old ++ reverse added = ap (map f) d_is ∙ pushed in
    let front : map f (take n d) ≡ old = sym (take-map f n d) ∙ ap (take n) seen ∙ subst (λ j. take j (old ++ reverse added) ≡ old) (sym n_is) (take-append_seam old (reverse added)) in
    let behind : map f (drop n d) ≡ reverse added = sym (drop-map f n d) ∙ ap (drop n) seen ∙ subst (λ j. drop j (old ++ reverse added) ≡ reverse added) (sym n_is) (drop-append_seam old (reverse added)) in
    let back : map f (reverse (drop n d)) ≡ added = map_reversed f (drop n d) ∙ ap reverse behind ∙ reverse-reverse added in
    ap (λ q. map f (take len ((take n d ++ q) ++ more))) turned ∙ ap (map f) cut ∙ map-append f (take n d) (reverse (drop n d)) ∙ ap (λ q. q ++ map f (reverse (drop n d))) front ∙ ap (λ q. old ++ q) back
