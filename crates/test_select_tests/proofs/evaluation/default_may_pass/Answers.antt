use Rattle.std.proofs.Common.{◌↔◌, IfOk, IsTrue, subst, true}
use Rattle.nextest_filter_evaluation.specs.Meaning.{DefaultGives}
use Rattle.nextest_binaries.specs.Queries.{binary_of}
use Rattle.test_select_tests.proofs.evaluation.default_may_pass.Goals as goal

pub returns : goal.returns
returns c =
    subst (λ d. IfOk c.default_may_give_true.result (λ r. IsTrue r ↔ DefaultGives d (binary_of c.args.binary.now) true)) c.eval_context-cx.ensures.default c.default_may_give_true.ensures
