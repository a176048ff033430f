use Rattle.std.proofs.Common.{map}
use Rattle.std.proofs.lemmas.Result.{err_from_is_err_and}
use Rattle.nextest_filter_evaluation.specs.Compiled.{compiled_of}
use Rattle.test_select_tests.proofs.FilteringFacts.{text_err, texts_more}
use Rattle.test_select_tests.proofs.filtering.given_filters.Goals as goal

pub returns-in_err-text_filter : goal.returns-in_err-text_filter
returns-in_err-text_filter c =
    let p = err_from_is_err_and c.from_residual.result c.from_residual.ensures.1 in
    rw (p.1, p.2) (text_err c.args.cx.now c.args.groups.now c.args.texts.now c.loop-place.place _ (map compiled_of c.loop-place.filters.items) _ c.loop-place-test.true c.loop-place.invariant c.in_err-text_filter.ensures)

pub loop-place-preserved : goal.loop-place-preserved
loop-place-preserved c =
    texts_more c.args.cx.now c.args.groups.now c.args.texts.now c.loop-place.place _ c.loop-place.filters.items c.push.new.self.items c.in_ok-text_filter.field-0 c.loop-place-test.true c.in_ok-push.ensures.items c.loop-place.invariant c.in_ok-text_filter.ensures
