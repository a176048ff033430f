use Rattle.std.proofs.Common.{arith}
use Rattle.nextest_filter_evaluation.proofs.ReducingFacts.{suited_next}
use Rattle.nextest_filter_evaluation.proofs.reducing.suited.Goals as goal

pub loop-name-preserved : goal.loop-name-preserved
loop-name-preserved c =
    suited_next (λ t. t.now) _ c.args.names.now c.loop-name.flags.items _ c.loop-name.name-index c.in_ok-suits.field-0 _ (omega (arith, c.loop-name-test.true)) c.loop-name.invariant c.in_ok-suits.ensures.matches c.in_ok-push.ensures.items
