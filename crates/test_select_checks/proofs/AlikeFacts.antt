-- Lists whose elements belong together, place by place.
use Rattle.std.proofs.Common.{subst, List, [], ◌∷◌, ◌++◌, Contains, ⊎_elim}
use Rattle.list_facts.proofs.Membership.{Contains-none, Contains-first, Contains-rest, Contains-cons_cases}
use Rattle.test_select_checks.specs.Alike.{AreAlike}

module _ {A B : Type 0} (belongs : A → B → Type 0) where
  -- one more of each
  pub alike_more : (xs : List A) (ys : List B) (x : A) (y : B) → AreAlike belongs xs ys → belongs x y → AreAlike belongs (xs ++ x ∷ []) (ys ++ y ∷ [])
  alike_more [] [] x y h b = (b, tt)
  alike_more [] (z ∷ ys) x y h b = absurd h
  alike_more (z ∷ xs) [] x y h b = absurd h
  alike_more (z ∷ xs) (u ∷ ys) x y h b = (h.0, alike_more xs ys x y h.1 b)

  -- each element of the one belongs to some element of the other
  pub alike_there : (xs : List A) (ys : List B) (x : A) → AreAlike belongs xs ys → Contains xs x → (y : B) × Contains ys y × belongs x y
  alike_there [] ys x h i = absurd (Contains-none x i)
  alike_there (z ∷ xs) [] x h i = absurd h
  alike_there (z ∷ xs) (u ∷ ys) x h i =
      ⊎_elim
      (λ e. (u, Contains-first u ys, subst (λ t. belongs t u) e h.0))
      (λ r. let found = alike_there xs ys x h.1 r in (found.0, Contains-rest u ys found.0 found.1, found.2))
      (Contains-cons_cases z xs x i)

  pub alike_back : (xs : List A) (ys : List B) (y : B) → AreAlike belongs xs ys → Contains ys y → (x : A) × Contains xs x × belongs x y
  alike_back xs [] y h i = absurd (Contains-none y i)
  alike_back [] (u ∷ ys) y h i = absurd h
  alike_back (z ∷ xs) (u ∷ ys) y h i =
      ⊎_elim
      (λ e. (z, Contains-first z xs, subst (belongs z) e h.0))
      (λ r. let found = alike_back xs ys y h.1 r in (found.0, Contains-rest z xs found.0 found.1, found.2))
      (Contains-cons_cases u ys y i)

-- a list between two others
module _ {A B C : Type 0} (belongs : A → C → Type 0) (first : A → B → Type 0) (second : B → C → Type 0) (between : (a : A) (c : C) → belongs a c → (b : B) × first a b × second b c) where
  pub alike_between : (xs : List A) (zs : List C) → AreAlike belongs xs zs → (ys : List B) × AreAlike first xs ys × AreAlike second ys zs
  alike_between [] [] h = ([], tt, tt)
  alike_between [] (z ∷ zs) h = absurd h
  alike_between (x ∷ xs) [] h = absurd h
  alike_between (x ∷ xs) (z ∷ zs) h =
      let one = between x z h.0 in
      let rest = alike_between xs zs h.1 in
      (one.0 ∷ rest.0, (one.1, rest.1), (one.2, rest.2))
