use Rattle.std.proofs.Common.{◌↔◌, drop, map}
use Rattle.nextest_filter_evaluation.specs.Compiled.{compiled_of}
use Rattle.nextest_binaries.specs.Queries.{binary_of}
use Rattle.test_select_tests.specs.QuestionFilters.{SomeMayPass}
use Rattle.test_select_tests.proofs.evaluation.some_may_give_true.Given as goal

abbrev pub invariant-loop-text : goal.invariant-loop-text
invariant-loop-text l =
    SomeMayPass (compiled_of l.cx.default_filter.now) (map compiled_of l.texts) (binary_of l.binary) ↔ SomeMayPass (compiled_of l.cx.default_filter.now) (map compiled_of (drop l.text-index l.texts)) (binary_of l.binary)
