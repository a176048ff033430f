-- Of elements that are the same the first stands for each.
use Rattle.std.proofs.Common.{◌≡◌, Bool, true, false, not, List, [], ◌∷◌, Contains, filter, refl, sym, ap, ◌∙◌, ⊎_elim}
use Rattle.std.specs.Cmp.{IsEquivalence}
use Rattle.list_facts.proofs.Membership.{Contains-none, Contains-first, Contains-rest, Contains-cons_cases, Contains-filter}
use Rattle.guppy_feature_demands.specs.Nodes.{first_of_each}

-- each element has the same as one of the firsts
module _ {T : Type 0} {same : T → T → Bool} (laws : IsEquivalence same) where
  pub first_for : (xs : List T) (x : T) → Contains xs x → (y : T) × Contains (first_of_each same xs) y × (same y x ≡ true)
  first_for [] x h = absurd (Contains-none x h)
  first_for (z ∷ zs) x h = by (same z x) refl (first_for zs x)
    where
      left : List T
      left = filter (λ y. not (same z y)) (first_of_each same zs)

      kept_too : (y : T) → Contains (first_of_each same zs) y → same y x ≡ true → same z x ≡ false → Contains left y
      kept_too y h e none = Contains-filter (λ y. not (same z y)) (first_of_each same zs) y h (ap not (alike e none))
        where
          alike : same y x ≡ true → same z x ≡ false → same z y ≡ false
          alike e none = laws.symm z y ∙ laws.congr y x z e ∙ laws.symm x z ∙ none

      by : (b : Bool) → same z x ≡ b → (Contains zs x → (y : T) × Contains (first_of_each same zs) y × (same y x ≡ true)) → (y : T) × Contains (z ∷ left) y × (same y x ≡ true)
      by true e later = (z, Contains-first z left, e)
      by false e later =
          let found = later (⊎_elim (λ is. absurd (contradiction is)) (λ r. r) (Contains-cons_cases z zs x h)) in
          (found.0, Contains-rest z left found.0 (kept_too found.0 found.1 found.2 e), found.2)
        where
          contradiction : z ≡ x → ⊥
          contradiction is = let t : true ≡ false = sym (laws.refl x) ∙ ap (λ y. same y x) (sym is) ∙ e in absurd cc
