use Rattle.std.proofs.Common.{Contains, subst}
use Rattle.std.proofs.lemmas.List.Filters.{dedup_is}
use Rattle.std.proofs.lemmas.List.Kept.{Contains-from_dedup}
use Rattle.std.proofs.lemmas.List.Sorted.{Contains-permutation, IsPermutation-sym}
use Rattle.list_facts.specs.Ascending.{text_cmp}
use Rattle.list_facts.proofs.Ascending.{ascending_of_sort, text_total, text_exact, texts_tie}
use Rattle.test_select_tests.proofs.plan.sorted_binaries.Goals as goal

pub returns-clause-ascending : goal.returns-clause-ascending
returns-clause-ascending c =
    ascending_of_sort (λ b. b.id) text_cmp text_total text_exact _ (λ a b. texts_tie a.id b.id) _ _ _ c.in_ok-sort.ensures.permutation c.in_ok-sort.ensures.sorted c.dedup.ensures.filtered

pub returns-clause-all_of_them : goal.returns-clause-all_of_them
returns-clause-all_of_them c b h =
    Contains-permutation _ _ b (IsPermutation-sym _ _ c.in_ok-sort.ensures.permutation) (Contains-from_dedup _ _ b (subst (λ bs. Contains bs b) (dedup_is _ _ _ c.dedup.ensures.filtered) h))
