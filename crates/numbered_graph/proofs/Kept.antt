-- Where the elements that a filter keeps stood before.
use Rattle.std.proofs.Common.{◌≡◌, ℕ, zero, suc, ◌<◌, Bool, true, false, cond, List, [], ◌∷◌, length, get_or, filter, refl, sym, subst, AllPairs, arith}

-- the place of the i-th kept element, where the first element is kept or not
abbrev at : Bool → ℕ → (ℕ → ℕ) → ℕ
at true zero rest = 0
at true (suc i) rest = suc (rest i)
at false i rest = suc (rest i)

module _ {X : Type 0} where
  -- places of the elements of ys in xs, in order
  pub record Stand (xs ys : List X) (place : ℕ → ℕ) : Type 0 where
    pub within : (i : ℕ) → i < length ys → place i < length xs
    pub rises : (i j : ℕ) → i < j → j < length ys → place i < place j
    pub same : (i : ℕ) (d : X) → i < length ys → get_or ys i d ≡ get_or xs (place i) d

  within_more : (b : Bool) (x : X) (xs ys : List X) (place : ℕ → ℕ) → Stand xs ys place → (i : ℕ) → i < length (cond b (x ∷ ys) ys) → at b i place < length (x ∷ xs)
  within_more true x xs ys place h zero lt = omega arith
  within_more true x xs ys place h (suc i) lt = let w = h.within i (omega arith) in omega arith
  within_more false x xs ys place h i lt = let w = h.within i lt in omega arith

  rises_more : (b : Bool) (x : X) (xs ys : List X) (place : ℕ → ℕ) → Stand xs ys place → (i j : ℕ) → i < j → j < length (cond b (x ∷ ys) ys) → at b i place < at b j place
  rises_more true x xs ys place h i zero lt small = absurd (omega arith)
  rises_more true x xs ys place h zero (suc j) lt small = omega arith
  rises_more true x xs ys place h (suc i) (suc j) lt small = let r = h.rises i j (omega arith) (omega arith) in omega arith
  rises_more false x xs ys place h i j lt small = let r = h.rises i j lt small in omega arith

  same_more : (b : Bool) (x : X) (xs ys : List X) (place : ℕ → ℕ) → Stand xs ys place → (i : ℕ) (d : X) → i < length (cond b (x ∷ ys) ys) → get_or (cond b (x ∷ ys) ys) i d ≡ get_or (x ∷ xs) (at b i place) d
  same_more true x xs ys place h zero d lt = refl
  same_more true x xs ys place h (suc i) d lt = h.same i d (omega arith)
  same_more false x xs ys place h i d lt = h.same i d lt

  pub stand : (p : X → Bool) (xs : List X) → (place : ℕ → ℕ) × Stand xs (filter p xs) place
  stand p [] = (λ i. i, record { within = λ i lt. lt; rises = λ i j lt small. lt; same = λ i d lt. refl })
  stand p (x ∷ xs) =
      let rest = stand p xs in
      (λ i. at (p x) i rest.0, record { within = within_more (p x) x xs (filter p xs) rest.0 rest.1; rises = rises_more (p x) x xs (filter p xs) rest.0 rest.1; same = same_more (p x) x xs (filter p xs) rest.0 rest.1 })

  -- what holds of each element and each later one
  pub AllPairs-filter : (R : X → X → Type 0) (p : X → Bool) (xs : List X) → AllPairs R xs → AllPairs R (filter p xs)
  AllPairs-filter R p xs h i j d lt small =
      let s = stand p xs in
      subst (λ x. R x (get_or (filter p xs) j d)) (sym (s.1.same i d (omega arith))) (subst (λ y. R (get_or xs (s.0 i) d) y) (sym (s.1.same j d small)) (h (s.0 i) (s.0 j) d (s.1.rises i j lt small) (s.1.within j small)))

  -- and of three elements in order
  pub triples_filter : (R : X → X → X → Type 0) (p : X → Bool) (xs : List X) (d : X) → ((i j k : ℕ) → i < j → j < k → k < length xs → R (get_or xs i d) (get_or xs j d) (get_or xs k d)) → (i j k : ℕ) → i < j → j < k → k < length (filter p xs) → R (get_or (filter p xs) i d) (get_or (filter p xs) j d) (get_or (filter p xs) k d)
  triples_filter R p xs d h i j k lt lt2 small =
      let s = stand p xs in
      let small_j : j < length (filter p xs) = omega arith in
      let small_i : i < length (filter p xs) = omega arith in
      subst (λ x. R x (get_or (filter p xs) j d) (get_or (filter p xs) k d)) (sym (s.1.same i d small_i)) (subst (λ y. R (get_or xs (s.0 i) d) y (get_or (filter p xs) k d)) (sym (s.1.same j d small_j)) (subst (λ z. R (get_or xs (s.0 i) d) (get_or xs (s.0 j) d) z) (sym (s.1.same k d small)) (h (s.0 i) (s.0 j) (s.0 k) (s.1.rises i j lt small_j) (s.1.rises j k lt2 small) (s.1.within k small))))
