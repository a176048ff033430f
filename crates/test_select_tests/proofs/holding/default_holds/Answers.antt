use Rattle.std.proofs.Common.{◌∙◌, ◌↔◌, IfOk, IsTrue, subst, sym, true≢false}
use Rattle.nextest_filter_evaluation.specs.Compiled.{compiled_of}
use Rattle.nextest_filter_evaluation.specs.Meaning.{DefaultHolds}
use Rattle.nextest_filter_evaluation.proofs.MeaningFacts.{says_alike, with_default}
use Rattle.nextest_binaries.specs.Queries.{test_of}
use Rattle.test_select_tests.proofs.holding.default_holds.Goals as goal

pub returns : goal.returns
returns c =
    let cx = c.eval_context-cx.result in
    let d = compiled_of cx.default_filter.now in
    let t = test_of c.args.test.now in
    record {
      holds = subst (λ e. IfOk c.matches_test_by.result (λ r. IsTrue r ↔ DefaultHolds e t)) c.eval_context-cx.ensures.default (says_alike _ _ c.matches_test_by.result (with_default t (λ _. ⊥) (DefaultHolds d t) ⊥ d (λ named. absurd (true≢false (sym named ∙ cx.no_default)))) c.matches_test_by.ensures.holds);
    }
