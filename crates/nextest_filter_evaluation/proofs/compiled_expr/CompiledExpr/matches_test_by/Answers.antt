use Rattle.nextest_filter_evaluation.specs.Compiled.{compiled_of}
use Rattle.nextest_filter_evaluation.proofs.MeaningFacts.{alone, iff_trans, says_alike, with_default}
use Rattle.nextest_filter_evaluation.proofs.compiled_expr.CompiledExpr.matches_test_by.Goals as goal

pub returns-clause-holds : goal.returns-clause-holds
returns-clause-holds g c =
    let cx = c.args.cx.now in
    says_alike _ _ _ (with_default _ _ _ _ (compiled_of c.args.self.now) (λ named. iff_trans (c.in_ok-default.ensures.holds named) (alone _ _ _ _ _ (compiled_of cx.default_filter.now) cx.no_group cx.no_default))) c.value_of.ensures.holds
