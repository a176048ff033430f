use Rattle.std.proofs.Common.{drop, map}
use Rattle.workspace_record.specs.Records.{Text}
use Rattle.nextest_filter_evaluation.specs.Compiled.{compiled_of}
use Rattle.nextest_filter_evaluation.specs.Meaning.{Passes}
use Rattle.nextest_binaries.specs.Queries.{test_of}
use Rattle.test_select_checks.specs.CompiledViews.{group_view}
use Rattle.test_select_checks.specs.Groups.{IsGroupOf}
use Rattle.test_select_checks.proofs.group_table.first_group.Given as goal

abbrev pub invariant-loop-group : goal.invariant-loop-group
invariant-loop-group l =
    (name : Text)
    → IsGroupOf (Passes (compiled_of l.cx.default_filter.now) (λ _. ⊥) (test_of l.test)) (map group_view (drop l.group-index l.groups)) name
    → IsGroupOf (Passes (compiled_of l.cx.default_filter.now) (λ _. ⊥) (test_of l.test)) (map group_view l.groups) name
