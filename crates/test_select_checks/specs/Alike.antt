-- Two lists whose elements belong together, place by place.
use Rattle.std.specs.Prelude.{List, [], ◌∷◌}

-- the lists are of one length, and at each place the element of the one belongs to that of the other
abbrev pub AreAlike : {A B : Type 0} → (A → B → Type 0) → List A → List B → Type 0
AreAlike belongs [] [] = Unit {0}
AreAlike belongs [] (y ∷ ys) = ⊥
AreAlike belongs (x ∷ xs) [] = ⊥
AreAlike belongs (x ∷ xs) (y ∷ ys) = belongs x y × AreAlike belongs xs ys
