use Rattle.std.proofs.Common.{◌≡◌, get_or, take, filter}
use Rattle.numbered_graph.specs.Sets.{has}
use Rattle.numbered_graph.proofs.cycle_lists.on_levels.Given as goal

abbrev pub invariant-loop-node : goal.invariant-loop-node
invariant-loop-node l = l.members.items ≡ filter (λ v. has l.levels (get_or l.keys v 0)) (take l.node-index l.order)
