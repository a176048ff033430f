use Rattle.std.proofs.Common.{◌≡◌, [], map}
use Rattle.regex.specs.Strings.{matcher_pattern}
use Rattle.list_facts.specs.Texts.{pair_of}
use Rattle.nextest_filter_evaluation.specs.Questions.{lent_of, lent_searches}
use Rattle.test_select_tests.specs.Choosing.{IsListed}
use Rattle.test_select_tests.specs.Kept.{Adds}
use Rattle.test_select_tests.specs.Plans.{PassesIn}
use Rattle.test_select_tests.specs.QuestionFilters.{question_view}
use Rattle.test_select_tests.proofs.asking.choose.Given as goal

abbrev pub invariant-loop-binary : goal.invariant-loop-binary
invariant-loop-binary l = record {
  patterns : map matcher_pattern l.searchers.items ≡ lent_searches (lent_of l.filters);
  listed : Adds (IsListed (PassesIn (question_view l.plan.filters)) (map (λ e. (e.0.now, e.1)) l.yielded)) [] (map pair_of l.chosen.items);
}
