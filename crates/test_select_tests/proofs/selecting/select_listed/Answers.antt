use Rattle.std.proofs.Common.{map}
use Rattle.std.proofs.lemmas.Result.{err_from_is_err_and}
use Rattle.nextest_binaries.specs.Listers.{unasked}
use Rattle.test_select_tests.specs.QuestionFilters.{question_view}
use Rattle.test_select_tests.specs.Questions.{Question}
use Rattle.test_select_tests.proofs.SelectingFacts.{answers_question, plan_refused}
use Rattle.test_select_tests.proofs.selecting.select_listed.Goals as goal

pub returns-in_err-plan-clause-answers : goal.returns-in_err-plan-clause-answers
returns-in_err-plan-clause-answers c =
    let p = err_from_is_err_and c.from_residual.result c.from_residual.ensures.1 in
    let q : Question = record { workspace = c.args.record.now.value; choice = c.args.choice.now; table = c.args.table.now; scope = c.args.scope; texts = map (λ t. t.now) c.args.texts.now; asks = c.args.asks } in
    rw (p.1, p.2) (unasked c.args.listings, plan_refused q (unasked c.args.listings) c.in_err-plan.field-0.0 c.in_err-plan.ensures)

pub returns : goal.returns
returns c =
    let carried = c.take_and_choose.ensures.carries in
    record {
      answers = (carried.0, answers_question _ (question_view c.in_ok-plan.plan.filters) _ c.in_ok-plan.ensures _ c.take_and_choose.result _ carried.1);
      missing = c.take_and_choose.ensures.missing;
    }
