use Rattle.std.proofs.Common.{arith}
use Rattle.test_select_tests.proofs.AscendingFacts.{ascending_by_neighbours}
use Rattle.test_select_tests.proofs.ascending_pairs.ascend.Goals as goal

pub returns : goal.returns
returns c is =
    let past = c.loop-place-test.false in
    ascending_by_neighbours c.args.pairs.now (λ k d lt. c.loop-place.invariant k d (omega (arith, past, lt)))
