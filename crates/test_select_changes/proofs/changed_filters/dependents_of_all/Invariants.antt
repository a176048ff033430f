use Rattle.std.proofs.Common.{◌≡◌}
use Rattle.list_facts.specs.Texts.{texts}
use Rattle.nextest_filter_laws.specs.Laws.{bare}
use Rattle.nextest_filter_syntax.specs.Trees.{tree_of}
use Rattle.test_select_changes.specs.ChangedFilters.{or_dependents}
use Rattle.test_select_changes.proofs.changed_filters.dependents_of_all.Given as goal

abbrev pub invariant-loop-name : goal.invariant-loop-name
invariant-loop-name l = bare (tree_of l.filter) ≡ or_dependents (bare (tree_of l.initial.filter)) (texts l.yielded)
