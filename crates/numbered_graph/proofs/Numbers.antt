-- The numbers below a bound, and those of them that pass a test.
use Rattle.std.proofs.Common.{◌≡◌, ◌≢◌, ℕ, zero, suc, ◌+◌, ◌<◌, Bool, true, false, cond, List, [], ◌∷◌, ◌++◌, filter, refl, sym, subst, ap, ◌∙◌, ⊎_elim, Contains, All, AllPairs, add-one, append-nil, arith}
use Rattle.std.proofs.lemmas.Bool.{cases_eq}
use Rattle.std.proofs.lemmas.List.Elements.{All-push, All-weaker, Contains-push, Contains-append_left, filter-append}
use Rattle.std.proofs.lemmas.List.Quantifiers.{all_pairs_push}
use Rattle.numbered_graph.specs.Listings.{numbers_below}

pub numbers-small : (n : ℕ) → All (λ v. v < n) (numbers_below n)
numbers-small zero = λ k d lt. absurd (omega arith)
numbers-small (suc n) = All-push (λ v. v < suc n) (numbers_below n) n (All-weaker (λ v. v < n) (λ v. v < suc n) (λ v lt. omega arith) (numbers_below n) (numbers-small n)) (omega arith)

pub numbers-all : (n v : ℕ) → v < n → Contains (numbers_below n) v
numbers-all zero v lt = absurd (omega arith)
numbers-all (suc n) v lt = ⊎_elim (λ e. subst (λ u. Contains (numbers_below n ++ n ∷ []) u) (sym e) (Contains-push (numbers_below n) n)) (λ ne. Contains-append_left (numbers_below n) (n ∷ []) v (numbers-all n v (omega arith))) (cases_eq v n)

pub numbers-apart : (n : ℕ) → AllPairs (λ x y. x ≢ y) (numbers_below n)
numbers-apart zero = λ i j d lt small. absurd (omega arith)
numbers-apart (suc n) = all_pairs_push (λ x y. x ≢ y) (numbers_below n) n (numbers-apart n) (λ k d lt e. let small = numbers-small n k d lt in omega arith)

pub numbers-rising : (n : ℕ) → AllPairs (λ x y. x < y) (numbers_below n)
numbers-rising zero = λ i j d lt small. absurd (omega arith)
numbers-rising (suc n) = all_pairs_push (λ x y. x < y) (numbers_below n) n (numbers-rising n) (numbers-small n)

pub push_or : (b : Bool) (xs : List ℕ) (y : ℕ) → xs ++ cond b (y ∷ []) [] ≡ cond b (xs ++ y ∷ []) xs
push_or true xs y = refl
push_or false xs y = append-nil xs

-- a loop's step: one number more is kept or left
pub kept_more : (p : ℕ → Bool) (n : ℕ) (old new : List ℕ) (b : Bool) → new ≡ cond b (old ++ n ∷ []) old → b ≡ p n → old ≡ filter p (numbers_below n) → new ≡ filter p (numbers_below (n + 1))
kept_more p n old new b made test so_far =
    made ∙ sym (push_or b old n) ∙ ap (λ t. old ++ cond t (n ∷ []) []) test ∙ ap (λ xs. xs ++ cond (p n) (n ∷ []) []) so_far ∙ sym (filter-append p (numbers_below n) (n ∷ [])) ∙ ap (λ m. filter p (numbers_below m)) (sym (add-one n))
