use Rattle.std.proofs.Common.{true}
use Rattle.nextest_filter_evaluation.specs.Meaning.{DefaultGives}
use Rattle.nextest_binaries.specs.Queries.{binary_of}
use Rattle.test_select_tests.specs.QuestionFilters.{SomeMayPass, question_view}
use Rattle.test_select_tests.proofs.SomeFacts.{both_if}
use Rattle.test_select_tests.proofs.evaluation.may_pass.Goals as goal

pub returns : goal.returns
returns c =
    let q = question_view c.args.filters.now in
    let b = binary_of c.args.binary.now in
    both_if (SomeMayPass q.filters.default q.texts b) (DefaultGives q.filters.default b true) c.in_ok-default_may_pass.field-0 c.some_may_pass.result c.in_ok-default_may_pass.ensures c.if-not-branch.false c.some_may_pass.ensures
