use Rattle.record_files.proofs.Lists.{each_step}
use Rattle.record_files.proofs.object.each_of.Goals as goal

pub loop-value-preserved : goal.loop-value-preserved
loop-value-preserved g c =
    each_step g.T.FromValue.read c.args.values.now c.loop-value.value-index _ c.value-item.result _ c.loop-value.read.items c.push.new.self.items c.loop-value-test.true c.value-item.is c.in_ok-from_value.ensures c.in_ok-push.ensures.items c.loop-value.invariant
