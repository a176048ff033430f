use Rattle.std.proofs.Common.{◌∙◌, sym, true≢false}
use Rattle.nextest_filter_evaluation.specs.Compiled.{compiled_of}
use Rattle.nextest_filter_evaluation.specs.Meaning.{DefaultGives}
use Rattle.nextest_filter_evaluation.proofs.KleeneFacts.{tells_alike}
use Rattle.nextest_filter_evaluation.proofs.MeaningFacts.{gives_with_default}
use Rattle.nextest_binaries.specs.Queries.{binary_of}
use Rattle.test_select_tests.proofs.KnownFacts.{known_may}
use Rattle.test_select_tests.proofs.evaluation.default_may_give_true.Goals as goal

pub returns : goal.returns
returns c =
    let cx = c.args.cx.now in
    let d = compiled_of cx.default_filter.now in
    let b = binary_of c.args.binary.now in
    known_may c.in_ok-known.known (DefaultGives d b) c.ne.result (tells_alike c.in_ok-known.known _ (DefaultGives d b) (gives_with_default b (DefaultGives d b) (λ _. Unit {0}) d (λ named. absurd (true≢false (sym named ∙ cx.no_default)))) c.in_ok-known.ensures.some) c.ne.ensures
