use Rattle.guppy_package_rules.proofs.PlaceFacts.{repeats_at, goes_on}
use Rattle.guppy_package_rules.proofs.distinct.first_repeat.Goals as goal

pub returns-then-not-branch : goal.returns-then-not-branch
returns-then-not-branch g c =
    repeats_at g.met.K.Eq.laws c.args.keys.now c.loop-place.seen.keys c.loop-place.place c.index-keys-place.result c.in_ok-insert.field-0 c.loop-place-test.true c.index-keys-place.is c.loop-place.invariant.0 c.loop-place.invariant.1 c.in_ok-insert.ensures.added c.if-not-branch.true

pub loop-place-preserved : goal.loop-place-preserved
loop-place-preserved g c =
    goes_on g.met.K.Eq.laws c.args.keys.now c.loop-place.seen.keys c.insert.new.self.keys c.loop-place.place c.index-keys-place.result c.in_ok-insert.field-0 c.loop-place-test.true c.index-keys-place.is c.loop-place.invariant.0 c.loop-place.invariant.1 c.in_ok-insert.ensures.added c.if-not-branch.false c.in_ok-insert.ensures.updates.0
