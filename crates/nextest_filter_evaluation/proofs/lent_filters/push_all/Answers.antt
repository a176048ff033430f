use Rattle.nextest_filter_evaluation.specs.Compiled.{compiled_of}
use Rattle.nextest_filter_evaluation.proofs.QuestionFacts.{pushed_next}
use Rattle.nextest_filter_evaluation.proofs.lent_filters.push_all.Goals as goal

pub loop-filter-preserved : goal.loop-filter-preserved
loop-filter-preserved c =
    pushed_next (λ f. compiled_of f.now) c.args.filters.now c.loop-filter.filter-index c.filter-item.result c.loop-filter-test.true c.filter-item.is _ _ _ c.loop-filter.invariant c.in_ok-push_searchers.ensures
