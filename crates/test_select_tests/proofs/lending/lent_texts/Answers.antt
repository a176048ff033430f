use Rattle.std.proofs.Common.{ap}
use Rattle.list_facts.proofs.Lists.{both_more}
use Rattle.nextest_filter_evaluation.specs.Compiled.{compiled_of}
use Rattle.test_select_tests.proofs.lending.lent_texts.Goals as goal

pub loop-text-preserved : goal.loop-text-preserved
loop-text-preserved c =
    both_more (λ f. compiled_of f.now) compiled_of c.loop-text.filters.items c.push.new.self.items _ c.args.texts.now c.loop-text.text-index _ c.loop-text-test.true c.in_ok-push.ensures.items (ap compiled_of c.text-item.is) c.loop-text.invariant
