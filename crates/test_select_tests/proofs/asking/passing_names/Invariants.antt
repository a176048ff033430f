use Rattle.std.proofs.Common.{◌≡◌, [], map}
use Rattle.regex.specs.Strings.{matcher_pattern}
use Rattle.list_facts.specs.Texts.{texts}
use Rattle.nextest_binaries.specs.Queries.{Binary}
use Rattle.nextest_filter_evaluation.specs.Questions.{ready_view}
use Rattle.test_select_tests.specs.Kept.{Adds}
use Rattle.test_select_tests.specs.Passing.{IsPassing}
use Rattle.test_select_tests.specs.QuestionFilters.{CompiledQuestion, IsReadyFor}
use Rattle.test_select_tests.proofs.asking.passing_names.Given as goal

abbrev pub invariant-loop-name : goal.invariant-loop-name
invariant-loop-name l = record {
  same : map matcher_pattern l.searchers ≡ map matcher_pattern l.fn.searchers;
  added : (q : CompiledQuestion) (b : Binary) → IsReadyFor (map matcher_pattern l.fn.searchers) q b (ready_view l.ready) → Adds (IsPassing q b (texts l.yielded)) [] (texts l.passing.items);
}
