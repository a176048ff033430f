-- Links from one node to another, looked for one after the other.
use Rattle.std.proofs.Common.{◌≡◌, ◌≢◌, ◌<◌, ◌≤◌, ℕ, suc, List, Option, Some, None, IfSome, IfNone, length, subst, ⊎_elim, arith}
use Rattle.std.proofs.lemmas.Bool.{cases_lt}
use Rattle.numbered_graph.specs.declared.direction.Direction.TheVariants.{Forward}
use Rattle.numbered_graph.specs.declared.link.Link.{Link}
use Rattle.numbered_graph.specs.Chains.{IsNextLink}
use Rattle.numbered_graph.specs.Links.{near_at, far_at}
use Rattle.guppy_package_table.specs.Tables.{IsClear}

-- the place of the next link; past the end where there is none
abbrev pub place_or_end : List Link → Option ℕ → ℕ
place_or_end links (Some j) = j
place_or_end links None = length links

-- the next link is one of the node's, and no link before it leads to the other node
pub record IsLooking (links : List Link) (from to : ℕ) (next : Option ℕ) : Type 0 where
  pub some : IfSome next (λ j. (j < length links) × (near_at Forward links j ≡ from))
  pub clear : IsClear from to links (place_or_end links next)

module _ (links : List Link) (from to : ℕ) where
  skipped : (at : ℕ) → IsClear from to links at → (next : ℕ) → IsNextLink Forward links from at next → IsClear from to links next
  skipped at clear next is k lt between =
      ⊎_elim (λ before. clear k before between) (λ not_before. is.none_between k (omega (arith, not_before)) lt between.near) (cases_lt k at)

  looking : (at : ℕ) → IsClear from to links at → (next : Option ℕ) → IfSome next (λ j. (j < length links) × IsNextLink Forward links from at j) → IfNone next (IsNextLink Forward links from at (length links)) → IsLooking links from to next
  looking at clear (Some j) some none = record { some = (some.0, some.1.follows some.0); clear = skipped at clear j some.1 }
  looking at clear None some none = record { some = tt; clear = skipped at clear (length links) none }

  pub looking_first : (next : Option ℕ) → IfSome next (λ j. (j < length links) × IsNextLink Forward links from 0 j) → IfNone next (IsNextLink Forward links from 0 (length links)) → IsLooking links from to next
  looking_first next some none = looking 0 (λ k lt between. absurd (omega (arith, lt))) next some none

  pub looking_on : (j : ℕ) (next : Option ℕ) → IsClear from to links j → near_at Forward links j ≡ from → far_at Forward links j ≢ to → IfSome next (λ i. (i < length links) × IsNextLink Forward links (near_at Forward links j) (suc j) i) → IfNone next (IsNextLink Forward links (near_at Forward links j) (suc j) (length links)) → IsLooking links from to next
  looking_on j next clear near far some none =
      looking (suc j) (λ k lt between. ⊎_elim (λ before. clear k before between) (λ not_before. far (subst (λ i. far_at Forward links i ≡ to) (same k lt not_before) between.far)) (cases_lt k j)) next
      (subst (λ n. IfSome next (λ i. (i < length links) × IsNextLink Forward links n (suc j) i)) near some)
      (subst (λ n. IfNone next (IsNextLink Forward links n (suc j) (length links))) near none)
    where
      same : (k : ℕ) → k < suc j → j ≤ k → k ≡ j
      same k lt not_before = omega (arith, lt, not_before)
