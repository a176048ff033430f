use Rattle.test_select_changes.proofs.PartFacts.{within_all, within_more}
use Rattle.test_select_changes.proofs.within.first_outside.Goals as goal

pub loop-place-preserved : goal.loop-place-preserved
loop-place-preserved c =
    within_more c.args.paths.now c.loop-place.place _ c.loop-place-test.true c.loop-place.invariant (c.is_within.ensures.0 c.if-not-is_within.false)

pub returns : goal.returns
returns c = within_all c.args.paths.now c.loop-place.place c.loop-place-test.false c.loop-place.invariant
