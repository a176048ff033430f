use Rattle.std.proofs.Common.{get_or}
use Rattle.numbered_graph.specs.Sets.{has}
use Rattle.numbered_graph.proofs.RunFacts.{kept_at}
use Rattle.numbered_graph.proofs.cycle_lists.on_levels.Goals as goal

pub loop-node-preserved : goal.loop-node-preserved
loop-node-preserved c =
    kept_at (λ v. has c.args.levels.now (get_or c.args.keys.now v 0)) c.args.order.now c.loop-node.node-index c.loop-node-test.true c.loop-node.members.items _ c.in_ok-push_if.ensures c.loop-node.invariant
