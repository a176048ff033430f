-- The members of a set, in ascending order.
use Rattle.std.proofs.Common.{◌≡◌, ◌↔◌, ◌<◌, ℕ, Bool, true, List, length, filter, sym, subst, Contains, All, AllPairs}
use Rattle.std.proofs.lemmas.List.Elements.{All-contains, Contains-get_or}
use Rattle.list_facts.proofs.Quantifiers.{All-from_Contains}
use Rattle.list_facts.proofs.Membership.{Contains-filter, Contains-filter_cases}
use Rattle.numbered_graph.specs.Listings.{numbers_below}
use Rattle.numbered_graph.specs.Sets.{has}
use Rattle.numbered_graph.proofs.Kept.{AllPairs-filter}
use Rattle.numbered_graph.proofs.Numbers.{numbers-all, numbers-rising, numbers-small}
use Rattle.numbered_graph.proofs.SetFacts.{has-within}

-- what a filter keeps of the numbers below another is below it
pub filter_small : (p : ℕ → Bool) (n : ℕ) → All (λ v. v < n) (filter p (numbers_below n))
filter_small p n = All-from_Contains (λ v. v < n) (filter p (numbers_below n)) (λ v inside. All-contains (λ u. u < n) (numbers_below n) v (numbers-small n) (Contains-filter_cases p (numbers_below n) v inside).0)

module _ (flags : List Bool) (xs : List ℕ) (is : xs ≡ filter (has flags) (numbers_below (length flags))) where
  pub members_rise : AllPairs (λ x y. x < y) xs
  members_rise = subst (AllPairs (λ x y. x < y)) (sym is) (AllPairs-filter (λ x y. x < y) (has flags) (numbers_below (length flags)) (numbers-rising (length flags)))

  pub members_are : (v : ℕ) → Contains xs v ↔ (has flags v ≡ true)
  members_are v = subst (λ ys. Contains ys v ↔ (has flags v ≡ true)) (sym is) (
    λ inside. (Contains-filter_cases (has flags) (numbers_below (length flags)) v inside).1,
    λ member. Contains-filter (has flags) (numbers_below (length flags)) v (numbers-all (length flags) v (has-within flags v member)) member,
  )

  pub members_small : All (λ v. v < length flags) xs
  members_small = λ k d lt. has-within flags _ ((members_are _).0 (Contains-get_or xs k d lt))
