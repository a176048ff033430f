-- What a list holds that is made of other lists.
use Rattle.std.proofs.Common.{◌≡◌, ℕ, zero, suc, ◌<◌, Bool, true, false, cond, List, [], ◌∷◌, ◌++◌, length, get_or, map, refl, sym, subst, ◌⊎◌, inl, inr, ⊎_elim, arith, filter, flat_map, Contains, true≢false}
pub use Rattle.std.proofs.lemmas.List.Elements.{Contains-append_left, Contains-append_right, Contains-append_cases}

module _ {X : Type 0} where
  pub Contains-none : (x : X) → Contains [] x → ⊥
  Contains-none x h = let lt = h.1 in absurd (omega arith)

  pub Contains-first : (x : X) (xs : List X) → Contains (x ∷ xs) x
  Contains-first x xs = (0, omega arith, refl)

  pub Contains-rest : (y : X) (xs : List X) (x : X) → Contains xs x → Contains (y ∷ xs) x
  Contains-rest y xs x h = let lt = h.1 in (suc h.0, omega arith, h.2)

  cases_at : (y : X) (xs : List X) (x : X) (k : ℕ) → k < length (y ∷ xs) → get_or (y ∷ xs) k x ≡ x → (y ≡ x) ⊎ Contains xs x
  cases_at y xs x zero lt e = inl e
  cases_at y xs x (suc k) lt e = inr (k, omega arith, e)

  pub Contains-cons_cases : (y : X) (xs : List X) (x : X) → Contains (y ∷ xs) x → (y ≡ x) ⊎ Contains xs x
  Contains-cons_cases y xs x h = cases_at y xs x h.0 h.1 h.2

  -- what holds of the first element and of each later one
  pub Contains-cons_elim : (P : X → Type 0) (y : X) (xs : List X) → P y → ((x : X) → Contains xs x → P x) → (x : X) → Contains (y ∷ xs) x → P x
  Contains-cons_elim P y xs first rest x h = ⊎_elim (λ e. subst P e first) (λ r. rest x r) (Contains-cons_cases y xs x h)

module _ {X Y : Type 0} (f : X → Y) where
  pub Contains-map : (xs : List X) (x : X) → Contains xs x → Contains (map f xs) (f x)
  Contains-map [] x h = absurd (Contains-none x h)
  Contains-map (y ∷ ys) x h =
      Contains-cons_elim (λ z. Contains (f y ∷ map f ys) (f z)) y ys (Contains-first (f y) (map f ys)) (λ z r. Contains-rest (f y) (map f ys) (f z) (Contains-map ys z r)) x h

  pub Contains-map_cases : (xs : List X) (y : Y) → Contains (map f xs) y → (x : X) × Contains xs x × (f x ≡ y)
  Contains-map_cases [] y h = absurd (Contains-none y h)
  Contains-map_cases (x ∷ xs) y h =
      ⊎_elim (λ e. (x, Contains-first x xs, e)) (λ r. let p = Contains-map_cases xs y r in (p.0, Contains-rest x xs p.0 p.1, p.2)) (Contains-cons_cases (f x) (map f xs) y h)

module _ {X : Type 0} (p : X → Bool) where
  kept : (y : X) (ys : List X) (b : Bool) (x : X) → Contains ys x → Contains (cond b (y ∷ ys) ys) x
  kept y ys true x h = Contains-rest y ys x h
  kept y ys false x h = h

  kept_first : (y : X) (ys : List X) (b : Bool) → b ≡ true → Contains (cond b (y ∷ ys) ys) y
  kept_first y ys true e = Contains-first y ys
  kept_first y ys false e = absurd (true≢false (sym e))

  kept_cases : (y : X) (ys : List X) (b : Bool) (x : X) → Contains (cond b (y ∷ ys) ys) x → ((y ≡ x) × (b ≡ true)) ⊎ Contains ys x
  kept_cases y ys true x h = ⊎_elim (λ e. inl (e, refl)) (λ r. inr r) (Contains-cons_cases y ys x h)
  kept_cases y ys false x h = inr h

  pub Contains-filter : (xs : List X) (x : X) → Contains xs x → p x ≡ true → Contains (filter p xs) x
  Contains-filter [] x h pass = h
  Contains-filter (y ∷ ys) x h pass =
      Contains-cons_elim (λ z. p z ≡ true → Contains (filter p (y ∷ ys)) z) y ys (kept_first y (filter p ys) (p y)) (λ z r passes. kept y (filter p ys) (p y) z (Contains-filter ys z r passes)) x h pass

  pub Contains-filter_cases : (xs : List X) (x : X) → Contains (filter p xs) x → Contains xs x × (p x ≡ true)
  Contains-filter_cases [] x h = absurd (Contains-none x h)
  Contains-filter_cases (y ∷ ys) x h =
      ⊎_elim (λ e. (subst (λ z. Contains (y ∷ ys) z) e.0 (Contains-first y ys), subst (λ z. p z ≡ true) e.0 e.1)) (λ r. let q = Contains-filter_cases ys x r in (Contains-rest y ys x q.0, q.1)) (kept_cases y (filter p ys) (p y) x h)

module _ {X Y : Type 0} (f : X → List Y) where
  pub Contains-flat_map : (xs : List X) (x : X) (y : Y) → Contains xs x → Contains (f x) y → Contains (flat_map f xs) y
  Contains-flat_map [] x y h inside = absurd (Contains-none x h)
  Contains-flat_map (z ∷ zs) x y h inside =
      Contains-cons_elim (λ w. Contains (f w) y → Contains (f z ++ flat_map f zs) y) z zs (Contains-append_left (f z) (flat_map f zs) y) (λ w r i. Contains-append_right (f z) (flat_map f zs) y (Contains-flat_map zs w y r i)) x h inside

  pub Contains-flat_map_cases : (xs : List X) (y : Y) → Contains (flat_map f xs) y → (x : X) × Contains xs x × Contains (f x) y
  Contains-flat_map_cases [] y h = absurd (Contains-none y h)
  Contains-flat_map_cases (x ∷ xs) y h =
      ⊎_elim (λ i. (x, Contains-first x xs, i)) (λ r. let p = Contains-flat_map_cases xs y r in (p.0, Contains-rest x xs p.0 p.1, p.2)) (Contains-append_cases (f x) (flat_map f xs) y h)
