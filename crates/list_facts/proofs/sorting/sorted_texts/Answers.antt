use Rattle.std.proofs.Common.{string_bytes}
use Rattle.list_facts.specs.Ascending.{text_cmp}
use Rattle.list_facts.proofs.Ascending.{ascending_of_sort, text_total, text_exact, texts_tie}
use Rattle.list_facts.proofs.sorting.sorted_texts.Goals as goal

pub returns : goal.returns
returns c =
    ascending_of_sort string_bytes text_cmp text_total text_exact _ (λ a b. texts_tie (string_bytes a) (string_bytes b)) _ _ _ c.in_ok-sort.ensures.permutation c.in_ok-sort.ensures.sorted c.dedup.ensures.filtered
