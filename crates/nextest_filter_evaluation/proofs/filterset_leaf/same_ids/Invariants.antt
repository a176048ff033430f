use Rattle.std.proofs.Common.{◌≡◌, ◌++◌}
use Rattle.std.specs.List.Sorted.{IsStrictlySortedBy}
use Rattle.list_facts.specs.Ascending.{text_cmp}
use Rattle.nextest_filter_evaluation.proofs.filterset_leaf.same_ids.Given as goal

abbrev pub invariant-loop-id : goal.invariant-loop-id
invariant-loop-id l = (l.copies.keys ++ l.id-iterator ≡ l.ids.keys) × IsStrictlySortedBy text_cmp l.ids.keys
