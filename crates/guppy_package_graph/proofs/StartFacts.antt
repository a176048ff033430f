-- Which places are initials, by halving.
use Rattle.std.proofs.Common.{◌≡◌, ◌==◌, ◌<◌, ◌≤◌, ⊎_elim, ℕ, List, Result, Ok, Err, AllPairs, Contains, ap, arith, get_or, is_ok, length, nat_cmp, subst, sym, refl}
use Rattle.std.specs.List.{list_any}
use Rattle.std.specs.List.Sorted.{IsBinarySearchResult}
use Rattle.std.proofs.lemmas.Bool.{cases_lt, false_from_ne_true}
use Rattle.std.proofs.lemmas.Bool.Decides.{Decides-eqb}
use Rattle.std.proofs.lemmas.List.{get_or_default}
use Rattle.std.proofs.lemmas.List.Elements.{Contains-get_or}
use Rattle.std.proofs.lemmas.List.Sorted.{searched}
use Rattle.list_facts.proofs.Quantifiers.{list_any-from_Contains, list_any_cases}

rises : (xs : List ℕ) → AllPairs (λ u v. u < v) xs → (i j : ℕ) → i ≤ j → j < length xs → get_or xs i 0 ≤ get_or xs j 0
rises xs up i j le lt =
    ⊎_elim (λ before. let less = up i j 0 before lt in omega (arith, less)) (λ not_before. let same : get_or xs i 0 ≡ get_or xs j 0 = ap (λ k. get_or xs k 0) (omega (arith, le, not_before)) in omega (arith, same)) (cases_lt i j)

-- where it finds nothing there is none
none_there : (xs : List ℕ) (v i : ℕ) → AllPairs (λ u w. u < w) xs → IsBinarySearchResult (λ y. nat_cmp y v) xs (Err i) → Contains xs v → ⊥
none_there xs v i up h (k, lt, is) =
    let parts = searched xs v (Err i) h (rises xs up) in
    let here : get_or xs k 0 ≡ get_or xs k v = get_or_default xs k 0 v lt in
    ⊎_elim (λ less. let below = parts.1 k less in omega (arith, below, here, is)) (λ more. let above = parts.2 k more lt in omega (arith, above, here, is)) (cases_lt k i)

-- a search by halving finds a number exactly where it is among those that ascend
pub found_start : (xs : List ℕ) (v : ℕ) (r : Result ℕ ℕ) → AllPairs (λ u w. u < w) xs → IsBinarySearchResult (λ y. nat_cmp y v) xs r → is_ok r ≡ list_any (λ w. w == v) xs
found_start xs v (Ok i) up h =
    let at = searched xs v (Ok i) h (rises xs up) in
    sym (list_any-from_Contains (λ w. w == v) xs v (subst (Contains xs) at.1 (Contains-get_or xs i 0 at.0)) ((Decides-eqb v v).1 refl))
found_start xs v (Err i) up h = sym (false_from_ne_true (list_any (λ w. w == v) xs) (λ found. let it = list_any_cases (λ w. w == v) xs found in none_there xs v i up h (subst (Contains xs) ((Decides-eqb it.0 v).0 it.2) it.1)))
