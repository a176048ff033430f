-- A search by halving that counts its looks.
use Rattle.std.proofs.Common.{◌≡◌, ◌∙◌, ◌+◌, ◌-◌, ◌/◌, ◌<◌, ◌≤◌, ◌^◌, ◌==◌, ⊎_elim, ℕ, zero, suc, Bool, true, false, List, length, get_or, sym, ap, subst, refl, Contains, arith}
use Rattle.std.specs.Bool.{if◌then◌else◌}
use Rattle.std.specs.declared.cmp.Ordering.TheVariants.{Less, Equal, Greater}
use Rattle.std.specs.List.Sorted.{IsStrictlySortedBy}
use Rattle.std.specs.Ordering.{ordering_reverse}
use Rattle.std.proofs.lemmas.Bool.{cases_lt, false_from_ne_true}
use Rattle.std.proofs.lemmas.Bool.Decides.{nat_tests}
use Rattle.std.proofs.lemmas.List.Elements.{Contains-get_or}
use Rattle.std.proofs.lemmas.Map.Keys.{Less-from_sorted}
use Rattle.std.proofs.lemmas.Nat.{pow_pos}
use Rattle.workspace_record.specs.Features.{FeatureValue, feature_cmp, feature_cmp_total}
use Rattle.feature_account.specs.Accounts.{concluded_set}
use Rattle.feature_account.proofs.ConcludedFacts.{concluded_iff}
use Rattle.test_select_rules.specs.Digits.{digits}
use Rattle.test_select_rules.specs.Searches.{IsBetween, LooksLeft}
use Rattle.test_select_rules.proofs.FeatureOrder.{feature_exact}
use Rattle.test_select_rules.proofs.Halving.{is_equal}

module _ (on : List FeatureValue) (f : FeatureValue) (sorted : IsStrictlySortedBy feature_cmp on) where
  -- the feature at the place is the wanted one
  pub found_at : (i : ℕ) → i < length on → feature_cmp (get_or on i f) f ≡ Equal → true ≡ concluded_set on f
  found_at i lt h = sym ((concluded_iff on f).1 (subst (Contains on) (feature_exact (get_or on i f) f h) (Contains-get_or on i f lt)))

  -- no place is left
  pub found_nowhere : (low high : ℕ) → high ≤ low → IsBetween on f low high → false ≡ concluded_set on f
  found_nowhere low high none between = sym (false_from_ne_true (concluded_set on f) (λ e. nowhere ((concluded_iff on f).0 e)))
    where
      nowhere : Contains on f → ⊥
      nowhere (k, lt, is) = let here = between k lt is in let a = here.0 in let b = here.1 in absurd (omega arith)

  -- the wanted feature stands after a lesser one
  stands_after : (i k : ℕ) → i < length on → k < length on → get_or on k f ≡ f → feature_cmp (get_or on i f) f ≡ Less → i < k
  stands_after i k li lk is less = ⊎_elim (λ lt. lt) (λ ge. ⊎_elim (λ before. absurd (earlier before)) (λ after. absurd (same (omega arith))) (cases_lt k i)) (cases_lt i k)
    where
      earlier : k < i → ⊥
      earlier lt =
          let this = get_or on i f in
          let order : feature_cmp f this ≡ Less = subst (λ x. feature_cmp x this ≡ Less) is (Less-from_sorted feature_cmp on k i f sorted lt li) in
          let other : feature_cmp this f ≡ Greater = feature_cmp_total.antisymm this f ∙ ap ordering_reverse order in
          absurd cc

      same : i ≡ k → ⊥
      same e = let equal : feature_cmp (get_or on i f) f ≡ Equal = subst (λ x. feature_cmp x f ≡ Equal) (sym (ap (λ j. get_or on j f) e ∙ is)) (is_equal f) in absurd cc

  -- and before a greater one
  stands_before : (i k : ℕ) → i < length on → k < length on → get_or on k f ≡ f → feature_cmp (get_or on i f) f ≡ Greater → k < i
  stands_before i k li lk is more = ⊎_elim (λ lt. lt) (λ ge. ⊎_elim (λ after. absurd (later after)) (λ before. absurd (same (omega arith))) (cases_lt i k)) (cases_lt k i)
    where
      later : i < k → ⊥
      later lt =
          let this = get_or on i f in
          let other : feature_cmp this f ≡ Less = subst (λ x. feature_cmp this x ≡ Less) is (Less-from_sorted feature_cmp on i k f sorted lt lk) in
          absurd cc

      same : i ≡ k → ⊥
      same e = let equal : feature_cmp (get_or on i f) f ≡ Equal = subst (λ x. feature_cmp x f ≡ Equal) (sym (ap (λ j. get_or on j f) e ∙ is)) (is_equal f) in absurd cc

  pub between_after : (low high i : ℕ) → i < length on → feature_cmp (get_or on i f) f ≡ Less → IsBetween on f low high → IsBetween on f (i + 1) high
  between_after low high i lt less between k small is = let here = between k small is in let after = stands_after i k lt small is less in (omega arith, here.1)

  pub between_before : (low high i : ℕ) → i < length on → feature_cmp (get_or on i f) f ≡ Greater → IsBetween on f low high → IsBetween on f low i
  between_before low high i lt more between k small is = let here = between k small is in (here.0, stands_before i k lt small is more)

double : (n : ℕ) → 2 ^ suc n ≡ 2 ^ n + 2 ^ n
double n = omega arith

same_number : (a b : ℕ) → (a == b) ≡ true → a ≡ b
same_number a b h = grind (arith, nat_tests, h)

other_number : (a b : ℕ) → (a == b) ≡ false → a ≡ b → ⊥
other_number a b h e = grind (arith, nat_tests, h, e)

-- a number is below the power of two of its digits
below_digits : (n : ℕ) → n < 2 ^ digits n
below_digits zero = omega arith
below_digits (suc n) = more (below_digits n) (suc n == 2 ^ digits n) refl
  where
    more : n < 2 ^ digits n → (b : Bool) → (suc n == 2 ^ digits n) ≡ b → suc n < 2 ^ (if b then suc (digits n) else digits n)
    more before true h = let e = same_number (suc n) (2 ^ digits n) h in let twice = double (digits n) in let pos = pow_pos (digits n) in omega arith
    more before false h = ⊎_elim (λ lt. lt) (λ ge. absurd (other_number (suc n) (2 ^ digits n) h (omega arith))) (cases_lt (suc n) (2 ^ digits n))

pub looks_at_start : (n looks : ℕ) → LooksLeft (n - 0) (looks + digits n) looks
looks_at_start n looks = let below = below_digits n in (digits n, omega arith, omega arith)

-- one look leaves at most a half
pub looks_less : (size rest most looks : ℕ) → 0 < size → rest ≤ size / 2 → LooksLeft size most looks → LooksLeft rest most (looks + 1)
looks_less size rest most looks some half (zero, within, below) = absurd (omega arith)
looks_less size rest most looks some half (suc m, within, below) = let twice = double m in (m, omega arith, omega arith)
