-- Sets of places.
use Rattle.std.proofs.Common.{◌≡◌, ℕ, suc, Bool, true, false, ◌||◌, List, [], ◌∷◌, length, refl, ap, ◌∙◌, arith}
use Rattle.numbered_graph.specs.Sets.{has}

either_same : (b : Bool) → (b || b) ≡ b
either_same true = refl
either_same false = refl

-- the union of a set with itself is that set
pub same_flags : (a b : List Bool) → length a ≡ length b → ((v : ℕ) → has a v ≡ (has b v || has b v)) → a ≡ b
same_flags [] [] sized each = refl
same_flags [] (y ∷ b) sized each = absurd (omega (arith, sized))
same_flags (x ∷ a) [] sized each = absurd (omega (arith, sized))
same_flags (x ∷ a) (y ∷ b) sized each =
    let head : x ≡ y = each 0 ∙ either_same y in
    let tail : a ≡ b = same_flags a b (omega (arith, sized)) (λ v. each (suc v)) in
    ap (λ (z : Bool). z ∷ a) head ∙ ap (λ (zs : List Bool). y ∷ zs) tail
