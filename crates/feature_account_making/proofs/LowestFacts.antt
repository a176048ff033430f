-- Two lowest accounts of one list of rules are the same.
use Rattle.std.proofs.Common.{◌≡◌, ℕ, ◌<◌, ◌≤◌, ⊎_elim, List, [], ◌∷◌, ◌++◌, Some, sym, ap, ◌∙◌, refl, subst, take, append-nil, append_assoc, slice_get, Contains, true≢false, arith, get_or-take, length-take}
use Rattle.std.proofs.lemmas.Bool.{cases_lt}
use Rattle.std.proofs.lemmas.Option.{slice_get_within, get_or_from_slice_get}
use Rattle.feature_account.specs.Accounts.{concludes, IsFirstOpen}
use Rattle.feature_account_rules.specs.Closed.{FeatureSet, IsClosed}
use Rattle.feature_account_rules.specs.declared.rule.Rule.{Rule}
use Rattle.feature_account.proofs.AccountFacts.{Contains-slice_get}
use Rattle.feature_account_making.specs.Lowest.{IsLowestAfter}

-- what stands below a number is among the first
among_first : (rules : List Rule) (n m : ℕ) (r : Rule) → slice_get rules n ≡ Some r → n < m → Contains (take m rules) r
among_first rules n m r at below =
    let within = slice_get_within rules n r at in
    (n, omega (arith, below, within, length-take m rules), get_or-take m rules n r below ∙ get_or_from_slice_get rules n r r at)

-- a rule that is open is none of those that the set is closed under
open_is_none : (rules : List Rule) (s : FeatureSet) (n : ℕ) (first : IsFirstOpen rules s n) (some : List Rule) → Contains some first.rule → IsClosed some s → ⊥
open_is_none rules s n first some inside closed =
    true≢false (sym (closed first.rule inside first.supported) ∙ first.left_out)

-- one rule alone is the lowest that is open
first_open_once : (rules : List Rule) (s : FeatureSet) (n m : ℕ) → IsFirstOpen rules s n → IsFirstOpen rules s m → n ≡ m
first_open_once rules s n m one other =
    ⊎_elim (λ (below : n < m). absurd (open_is_none rules s n one (take m rules) (among_first rules n m one.rule one.stands below) other.lowest))
    (λ (not_below : m ≤ n).
    ⊎_elim (λ (below : m < n). absurd (open_is_none rules s m other (take n rules) (among_first rules m n other.rule other.stands below) one.lowest))
    (λ (not_above : n ≤ m). omega (arith, not_below, not_above))
    (cases_lt m n))
    (cases_lt n m)

-- where what the earlier entries conclude is closed, no rule is open
closed_has_none : (rules : List Rule) (earlier : List ℕ) (n : ℕ) → IsFirstOpen rules (concludes rules earlier) n → IsClosed rules (concludes rules (earlier ++ [])) → ⊥
closed_has_none rules earlier n first closed =
    open_is_none rules (concludes rules earlier) n first rules (Contains-slice_get rules n first.rule first.stands) (subst (λ (xs : List ℕ). IsClosed rules (concludes rules xs)) (append-nil earlier) closed)

-- the entries after the same earlier ones are the same
pub lowest_after_agree : (rules : List Rule) (earlier a b : List ℕ) → IsLowestAfter rules earlier a → IsLowestAfter rules earlier b → IsClosed rules (concludes rules (earlier ++ a)) → IsClosed rules (concludes rules (earlier ++ b)) → a ≡ b
lowest_after_agree rules earlier [] [] low_a low_b closed_a closed_b = refl
lowest_after_agree rules earlier [] (m ∷ b) low_a low_b closed_a closed_b = absurd (closed_has_none rules earlier m low_b.0 closed_a)
lowest_after_agree rules earlier (n ∷ a) [] low_a low_b closed_a closed_b = absurd (closed_has_none rules earlier n low_a.0 closed_b)
lowest_after_agree rules earlier (n ∷ a) (m ∷ b) low_a low_b closed_a closed_b =
    let same : n ≡ m = first_open_once rules (concludes rules earlier) n m low_a.0 low_b.0 in
    let here : IsLowestAfter rules (earlier ++ n ∷ []) b = subst (λ (k : ℕ). IsLowestAfter rules (earlier ++ k ∷ []) b) (sym same) low_b.1 in
    let ends_a : IsClosed rules (concludes rules ((earlier ++ n ∷ []) ++ a)) = subst (λ (xs : List ℕ). IsClosed rules (concludes rules xs)) (sym (append_assoc earlier (n ∷ []) a)) closed_a in
    let ends_b : IsClosed rules (concludes rules ((earlier ++ n ∷ []) ++ b)) =
    subst (λ (xs : List ℕ). IsClosed rules (concludes rules xs)) (sym (append_assoc earlier (n ∷ []) b)) (subst (λ (k : ℕ). IsClosed rules (concludes rules (earlier ++ k ∷ b))) (sym same) closed_b) in
    ap (λ (k : ℕ). k ∷ a) same ∙ ap (λ (xs : List ℕ). m ∷ xs) (lowest_after_agree rules (earlier ++ n ∷ []) a b low_a.1 here ends_a ends_b)
