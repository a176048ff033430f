-- Flags that are set, and distinct numbers below a bound.
use Rattle.std.proofs.Common.{◌≡◌, ◌≢◌, ℕ, zero, suc, ◌+◌, ◌<◌, ◌≤◌, Bool, true, false, cond, eqb, List, [], ◌∷◌, length, set, refl, sym, subst, ap, ◌∙◌, ⊎_elim, Contains, AllPairs, count_by, arith, true≢false}
use Rattle.std.proofs.lemmas.Bool.{cases_eq, eqb-true}
use Rattle.std.proofs.lemmas.List.Sums.{count_by-le-length, sum_by-set}
use Rattle.std.proofs.lemmas.List.{get_or-set_other, length-set}
use Rattle.std.proofs.lemmas.Bool.Decides.{Decides-eqb}
use Rattle.std.proofs.lemmas.Map.Made.{IsDistinct-from_AllPairs}
use Rattle.std.proofs.lemmas.Map.Steps.{length-le_from_distinct_below}
use Rattle.list_facts.proofs.Quantifiers.{list_any_cases}
use Rattle.numbered_graph.specs.Sets.{has}

-- a flag that is set stands within the list
pub has-within : (flags : List Bool) (v : ℕ) → has flags v ≡ true → v < length flags
has-within [] v h = absurd (true≢false (sym h))
has-within (b ∷ flags) zero h = omega arith
has-within (b ∷ flags) (suc v) h = let lt = has-within flags v h in omega arith

-- what was set stays so
pub has-set : (flags : List Bool) (i v : ℕ) → has flags v ≡ true → has (set flags i true) v ≡ true
has-set [] i v h = h
has-set (b ∷ flags) zero zero h = refl
has-set (b ∷ flags) zero (suc v) h = h
has-set (b ∷ flags) (suc i) zero h = h
has-set (b ∷ flags) (suc i) (suc v) h = has-set flags i v h

-- a flag of the changed list was set before, or is the one that was changed
pub has-set_elim : (P : ℕ → Type 0) (flags : List Bool) (i v : ℕ) → P i → (has flags v ≡ true → P v) → has (set flags i true) v ≡ true → P v
has-set_elim P flags i v at else h =
    ⊎_elim (λ e. subst P (sym e) at) (λ n. else (sym (get_or-set_other flags i v true false n) ∙ h)) (cases_eq v i)

abbrev bit : Bool → ℕ
bit b = cond b 1 0

pub count_by-set_new : (flags : List Bool) (i : ℕ) → i < length flags → has flags i ≡ false → count_by (λ b. b) (set flags i true) ≡ count_by (λ b. b) flags + 1
count_by-set_new flags i lt h =
    let at : count_by (λ b. b) (set flags i true) + bit (has flags i) ≡ count_by (λ b. b) flags + 1 = sum_by-set bit flags i true false lt in
    let none_there = ap bit h in
    omega arith

-- fewer flags are set than there are, if one is not
pub count_by-lt : (flags : List Bool) (i : ℕ) → i < length flags → has flags i ≡ false → count_by (λ b. b) flags < length flags
count_by-lt flags i lt h =
    let one_more = count_by-set_new flags i lt h in
    let most = count_by-le-length (λ (b : Bool). b) (set flags i true) in
    let same = length-set flags i true in
    omega arith

-- distinct numbers below n are no more than n
pub length-le_from_pairs : (xs : List ℕ) (n : ℕ) → AllPairs (λ a b. a ≢ b) xs → ((x : ℕ) → Contains xs x → x < n) → length xs ≤ n
length-le_from_pairs xs n distinct below =
    length-le_from_distinct_below xs n (IsDistinct-from_AllPairs Decides-eqb xs distinct) (λ q h. let c = list_any_cases (eqb q) xs h in subst (λ x. x < n) (sym (eqb-true q c.0 c.2)) (below c.0 c.1))
