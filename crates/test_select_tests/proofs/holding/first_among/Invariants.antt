use Rattle.std.proofs.Common.{◌+◌, ℕ, drop, map}
use Rattle.nextest_filter_evaluation.specs.Compiled.{compiled_of}
use Rattle.nextest_filter_evaluation.specs.Meaning.{Passes}
use Rattle.nextest_binaries.specs.Queries.{test_of}
use Rattle.nextest_filter_evaluation.specs.Questions.{IsFirst}
use Rattle.test_select_checks.specs.CompiledViews.{filters_view}
use Rattle.test_select_checks.specs.Groups.{IsGroupMember}
use Rattle.test_select_tests.proofs.holding.first_among.Given as goal

abbrev pub invariant-loop-place : goal.invariant-loop-place
invariant-loop-place l =
    (k : ℕ)
    → IsFirst (Passes (compiled_of l.cx.default_filter.now) (IsGroupMember (filters_view l.groups.filters.now) (test_of l.test)) (test_of l.test)) (map compiled_of (drop l.place l.texts)) k
    → IsFirst (Passes (compiled_of l.cx.default_filter.now) (IsGroupMember (filters_view l.groups.filters.now) (test_of l.test)) (test_of l.test)) (map compiled_of l.texts) (l.place + k)
