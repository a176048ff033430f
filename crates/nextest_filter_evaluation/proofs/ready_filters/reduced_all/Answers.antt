use Rattle.std.proofs.Common.{arith, map, ap, ◌∙◌}
use Rattle.std.proofs.lemmas.List.{map-append}
use Rattle.nextest_filter_evaluation.specs.Compiled.{compiled_of}
use Rattle.nextest_filter_evaluation.specs.Ready.{ready_of}
use Rattle.nextest_filter_evaluation.proofs.QuestionFacts.{item_within, next_end, next_ready}
use Rattle.nextest_filter_evaluation.proofs.ready_filters.reduced_all.Goals as goal

pub reduced-requires : goal.reduced-requires
reduced-requires c = record {
  room = omega (arith, c.requires.room, c.loop-filter.invariant.next, item_within (λ f. compiled_of f.now) c.args.filters.now c.loop-filter.filter-index c.filter-item.result c.loop-filter-test.true c.filter-item.is);
}

pub loop-filter-preserved : goal.loop-filter-preserved
loop-filter-preserved c = record {
  next = next_end c.args.cx.now (λ f. compiled_of f.now) c.args.filters.now c.loop-filter.filter-index c.filter-item.result c.loop-filter-test.true c.filter-item.is c.args.at c.loop-filter.next c.in_ok-one.end c.loop-filter.invariant.next c.in_ok-one.ensures.next;
  ready = next_ready c.args.cx.now (λ f. compiled_of f.now) c.args.filters.now c.loop-filter.filter-index c.filter-item.result c.loop-filter-test.true c.filter-item.is c.args.at c.loop-filter.next c.in_ok-one.end c.loop-filter.invariant.next _ _ (ready_of c.in_ok-one.one) c.loop-filter.invariant.ready c.in_ok-one.ensures.ready (ap (map ready_of) c.in_ok-push.ensures.items ∙ map-append ready_of c.loop-filter.ready.items _);
}
