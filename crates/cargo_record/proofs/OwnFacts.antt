-- Members whose targets require features of their own alone.
use Rattle.std.proofs.Common.{◌≡◌, ℕ, ◌+◌, ◌<◌, ◌≤◌, Bool, true, false, not, ◌||◌, List, length, take, get_or, refl, subst, ◌∙◌}
use Rattle.std.proofs.lemmas.List.{take_all}
use Rattle.std.proofs.lemmas.List.Folds.{list_all_more}
use Rattle.std.specs.List.{list_all}

pub unless : (m b : Bool) → b ≡ true → (not m || b) ≡ true
unless true b e = e
unless false b e = refl

module _ {X : Type 0} (p : X → Bool) (xs : List X) (i : ℕ) where
  pub all_next : (x : X) → i < length xs → x ≡ get_or xs i x → list_all p (take i xs) ≡ true → p x ≡ true → list_all p (take (i + 1) xs) ≡ true
  all_next x lt is before one = list_all_more p xs i x lt ∙ rw (before, subst (λ y. p y ≡ true) is one) refl

  pub all_here : length xs ≤ i → list_all p (take i xs) ≡ true → list_all p xs ≡ true
  all_here le all = subst (λ ys. list_all p ys ≡ true) (take_all i xs le) all
