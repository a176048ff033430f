use Rattle.list_facts.specs.Texts.{pair_of}
use Rattle.list_facts.specs.Ascending.{pair_cmp}
use Rattle.list_facts.proofs.Ascending.{ascending_of_sort, pair_total, pair_exact, pairs_tie}
use Rattle.list_facts.proofs.sorting.sorted_pairs.Goals as goal

pub returns : goal.returns
returns c =
    ascending_of_sort pair_of pair_cmp pair_total pair_exact _ (λ a b. pairs_tie (pair_of a) (pair_of b)) _ _ _ c.in_ok-sort.ensures.permutation c.in_ok-sort.ensures.sorted c.dedup.ensures.filtered
