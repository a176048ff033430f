use Rattle.std.proofs.lemmas.Result.{err_from_is_err_and}
use Rattle.nextest_binaries.proofs.Asking.{asked_nothing}
use Rattle.test_select_tests.proofs.asking.ask_and_choose.Goals as goal

pub returns-in_err-ids : goal.returns-in_err-ids
returns-in_err-ids g c =
    let p = err_from_is_err_and c.from_residual.result c.from_residual.ensures.1 in
    rw (p.1, p.2) (asked_nothing _ _)

pub returns-in_err-infos : goal.returns-in_err-infos
returns-in_err-infos g c =
    let p = err_from_is_err_and c.from_residual-in_err-infos.result c.from_residual-in_err-infos.ensures.1 in
    rw (p.1, p.2) (asked_nothing _ _)
