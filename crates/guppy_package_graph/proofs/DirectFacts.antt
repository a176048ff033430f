-- The links of a package, from one of them on to the next.
use Rattle.std.proofs.Common.{◌≡◌, ◌≢◌, ℕ, zero, suc, ◌+◌, ◌-◌, ◌<◌, ◌≤◌, ◌==◌, Bool, true, false, cond, List, ◌∷◌, Option, Some, None, refl, ap, ◌∙◌, IfSome, IfNone, filter, length, arith}
use Rattle.std.proofs.lemmas.Bool.Decides.{Decides-eqb}
use Rattle.std.specs.List.{range_with_len}
use Rattle.numbered_graph.specs.declared.direction.Direction.{Direction}
use Rattle.numbered_graph.specs.declared.link.Link.{Link}
use Rattle.numbered_graph.specs.Chains.{IsNextLink}
use Rattle.numbered_graph.specs.Links.{near_at}
use Rattle.guppy_package_graph.specs.DirectViews.{links_from, links_next}

-- what does not pass is left out
skip_by : (p : ℕ → Bool) (at k m : ℕ) → ((i : ℕ) → at ≤ i → i < at + k → p i ≡ false) → filter p (range_with_len at (k + m)) ≡ filter p (range_with_len (at + k) m)
skip_by p at zero m fails =
    let many : 0 + m ≡ m = omega arith in
    let here : at ≡ at + 0 = omega arith in
    ap (λ n. filter p (range_with_len at n)) many ∙ ap (λ a. filter p (range_with_len a m)) here
skip_by p at (suc k) m fails =
    let rest = filter p (range_with_len (at + 1) (k + m)) in
    let many : suc k + m ≡ suc (k + m) = omega arith in
    let there : (at + 1) + k ≡ at + suc k = omega arith in
    ap (λ n. filter p (range_with_len at n)) many ∙ ap (λ b. cond b (at ∷ rest) rest) (fails at (omega arith) (omega arith)) ∙ skip_by p (at + 1) k m (λ i low high. fails i (omega (arith, low)) (omega (arith, high))) ∙ ap (λ a. filter p (range_with_len a m)) there

skip : (p : ℕ → Bool) (at j n : ℕ) → at ≤ j → j ≤ n → ((i : ℕ) → at ≤ i → i < j → p i ≡ false) → filter p (range_with_len at (n - at)) ≡ filter p (range_with_len j (n - j))
skip p at j n low high fails =
    let many : n - at ≡ (j - at) + (n - j) = omega (arith, low, high) in
    let there : at + (j - at) ≡ j = omega (arith, low) in
    ap (λ k. filter p (range_with_len at k)) many ∙ skip_by p at (j - at) (n - j) (λ i lower higher. fails i lower (omega (arith, low, higher))) ∙ ap (λ a. filter p (range_with_len a (n - j))) there

not_same : (a b : ℕ) → a ≢ b → (a == b) ≡ false
not_same a b apart = told (a == b) refl
  where
    told : (t : Bool) → (a == b) ≡ t → (a == b) ≡ false
    told true e = absurd (apart ((Decides-eqb a b).0 e))
    told false e = e

module _ (d : Direction) (links : List Link) (place : ℕ) where
  abbrev passes : ℕ → Bool
  passes j = near_at d links j == place

  -- from a place on, the links begin with the next one
  pub begins : (at : ℕ) (next : Option ℕ) → IfSome next (λ j. (j < length links) × IsNextLink d links place at j) → IfNone next (IsNextLink d links place at (length links)) → links_from links d place at ≡ links_next links d place next
  begins at (Some j) some none = skip passes at j (length links) some.1.from_here some.1.within (λ i low high. not_same (near_at d links i) place (some.1.none_between i low high))
  begins at None some none =
      let none_left : length links - length links ≡ 0 = omega arith in
      skip passes at (length links) (length links) none.from_here (omega arith) (λ i low high. not_same (near_at d links i) place (none.none_between i low high)) ∙ ap (λ k. filter passes (range_with_len (length links) k)) none_left

  -- the next link, and those after it
  pub goes_on : (j : ℕ) → j < length links → near_at d links j ≡ place → links_from links d place j ≡ j ∷ links_from links d place (suc j)
  goes_on j lt is =
      let rest = filter passes (range_with_len (j + 1) (length links - suc j)) in
      let many : length links - j ≡ suc (length links - suc j) = omega (arith, lt) in
      let there : j + 1 ≡ suc j = omega arith in
      ap (λ k. filter passes (range_with_len j k)) many ∙ ap (λ b. cond b (j ∷ rest) rest) ((Decides-eqb (near_at d links j) place).1 is) ∙ ap (λ a. j ∷ filter passes (range_with_len a (length links - suc j))) there
