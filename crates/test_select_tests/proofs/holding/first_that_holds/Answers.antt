use Rattle.std.proofs.Common.{IfOk, List, map, subst}
use Rattle.nextest_filter_evaluation.specs.Compiled.{compiled_of}
use Rattle.nextest_filter_evaluation.specs.Meaning.{Passes}
use Rattle.nextest_filter_evaluation.specs.declared.compiled_expr.CompiledExpr.{CompiledExpr}
use Rattle.nextest_binaries.specs.Queries.{test_of}
use Rattle.test_select_tests.specs.FirstTexts.{FindsFirst}
use Rattle.test_select_tests.specs.QuestionFilters.{question_view}
use Rattle.test_select_checks.specs.CompiledViews.{filters_view}
use Rattle.test_select_checks.specs.Groups.{IsGroupMember}
use Rattle.test_select_tests.proofs.holding.first_that_holds.Goals as goal

pub returns : goal.returns
returns c =
    let q = question_view c.args.filters.now in
    let t = test_of c.args.test.now in
    let found = c.first_among.result in
    let d = compiled_of c.eval_context-cx.result.default_filter.now in
    let in_groups = filters_view c.new-groups.result.filters.now in
    let lent : IfOk found (λ place. FindsFirst (Passes d (IsGroupMember in_groups t) t) q.texts place) = subst (λ (xs : List CompiledExpr). IfOk found (λ place. FindsFirst (Passes d (IsGroupMember in_groups t) t) (map compiled_of xs) place)) c.deref.ensures.value c.first_among.ensures in
    let grouped : IfOk found (λ place. FindsFirst (Passes d (IsGroupMember q.filters t) t) q.texts place) = subst (λ fs. IfOk found (λ place. FindsFirst (Passes d (IsGroupMember fs t) t) q.texts place)) c.new-groups.ensures.filters lent in
    record {
      first = subst (λ e. IfOk found (λ place. FindsFirst (Passes e (IsGroupMember q.filters t) t) q.texts place)) c.eval_context-cx.ensures.default grouped;
    }
