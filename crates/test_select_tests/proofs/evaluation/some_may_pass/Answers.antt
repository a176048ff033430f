use Rattle.std.proofs.Common.{◌↔◌, IfOk, IsTrue, List, map, subst}
use Rattle.nextest_filter_evaluation.specs.Compiled.{compiled_of}
use Rattle.nextest_filter_evaluation.specs.declared.compiled_expr.CompiledExpr.{CompiledExpr}
use Rattle.nextest_binaries.specs.Queries.{binary_of}
use Rattle.test_select_tests.specs.QuestionFilters.{SomeMayPass, question_view}
use Rattle.test_select_tests.proofs.evaluation.some_may_pass.Goals as goal

pub returns : goal.returns
returns c =
    let q = question_view c.args.filters.now in
    let b = binary_of c.args.binary.now in
    let d = compiled_of c.eval_context-cx.result.default_filter.now in
    let lent : IfOk c.some_may_give_true.result (λ r. IsTrue r ↔ SomeMayPass d q.texts b) = subst (λ (xs : List CompiledExpr). IfOk c.some_may_give_true.result (λ r. IsTrue r ↔ SomeMayPass d (map compiled_of xs) b)) c.deref.ensures.value c.some_may_give_true.ensures in
    subst (λ e. IfOk c.some_may_give_true.result (λ r. IsTrue r ↔ SomeMayPass e q.texts b)) c.eval_context-cx.ensures.default lent
