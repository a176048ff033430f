use Rattle.std.proofs.Common.{List, String, Global, IsTrue, subst}
use Rattle.std.proofs.lemmas.Result.{err_from_is_err_and}
use Rattle.list_facts.specs.Texts.{texts}
use Rattle.test_select_tests.specs.QuestionFilters.{question_view}
use Rattle.test_select_rules.specs.BinaryView.{binary_view}
use Rattle.nextest_binaries.proofs.Asking.{asked_all}
use Rattle.test_select_tests.specs.CompiledReasons.{IsReasonOfTest}
use Rattle.test_select_tests.proofs.explaining.of_available.Goals as goal

pub returns-in_err-reason-in-Some : goal.returns-in_err-reason-in-Some
returns-in_err-reason-in-Some g c =
    let p = err_from_is_err_and c.from_residual-in_err-reason-in-Some.result c.from_residual-in_err-reason-in-Some.ensures.1 in
    rw (c.in-Some.is, p.1, p.2) (asked_all _ _ _ _ c.in_ok-names-in-Some.ensures)

pub returns-in_ok-reason-in-Some : goal.returns-in_ok-reason-in-Some
returns-in_ok-reason-in-Some g c =
    let q = question_view c.args.filters.now in
    let b = binary_view c.args.binary.now in
    let reason : IsReasonOfTest q (IsTrue c.args.are_given) b (texts c.in_ok-names-in-Some.names.items) c.in-Some.name.now c.in_ok-reason-in-Some.reason = subst (λ (xs : List (String Global)). IsReasonOfTest q (IsTrue c.args.are_given) b (texts xs) c.in-Some.name.now c.in_ok-reason-in-Some.reason) c.deref.ensures.value c.in_ok-reason-in-Some.ensures in
    rw c.in-Some.is (record { names = texts c.in_ok-names-in-Some.names.items; listing = c.in_ok-names-in-Some.ensures; reason = reason })
