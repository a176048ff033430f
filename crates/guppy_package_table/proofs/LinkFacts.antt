-- The links of one node, in ascending order.
use Rattle.std.proofs.Common.{ℕ, suc, ◌-◌, ◌<◌, ◌≡◌, List, Option, Some, None, length, ◌≢◌, ⊎_elim, ap, sym, ◌∙◌, arith}
use Rattle.std.proofs.lemmas.Bool.{cases_eq, cases_lt}
use Rattle.numbered_graph.specs.declared.direction.Direction.TheVariants.{Forward}
use Rattle.numbered_graph.specs.declared.link.Link as numbered
use Rattle.numbered_graph.specs.Chains.{IsNextLink}
use Rattle.numbered_graph.specs.Links.{link_at, near_at}
use Rattle.guppy_package_table.specs.Tables.{IsClear}

-- no link before the candidate leads from the one node to the other, and none at all if there is no candidate
abbrev pub IsCandidate : ℕ → ℕ → List numbered.Link → Option ℕ → Type 0
IsCandidate from to links (Some j) = (j < length links) × ((link_at links j).from ≡ from) × IsClear from to links j
IsCandidate from to links None = IsClear from to links (length links)

abbrev pub left_from : ℕ → Option ℕ → ℕ
left_from n (Some j) = n - j
left_from n None = 0

module _ {from to : ℕ} {links : List numbered.Link} where
  pub clear_at_first : (upto : ℕ) → IsNextLink Forward links from 0 upto → IsClear from to links upto
  clear_at_first upto next k lt between = next.none_between k (omega arith) lt between.near

  pub clear_more : (j upto : ℕ) → (link_at links j).from ≡ from → IsClear from to links j → ¬ (link_at links j).to ≡ to → IsNextLink Forward links (near_at Forward links j) (suc j) upto → IsClear from to links upto
  clear_more j upto near before differs next k lt between =
      ⊎_elim (λ (below : k < j). before k below between)
      (λ from_here. ⊎_elim (λ (is : k ≡ j). differs (ap (λ n. (link_at links n).to) (sym is) ∙ between.far)) (λ (other : k ≢ j). next.none_between k (omega (arith, from_here, other)) lt (between.near ∙ sym near)) (cases_eq k j)) (cases_lt k j)
