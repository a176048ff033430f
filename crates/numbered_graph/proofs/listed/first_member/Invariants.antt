use Rattle.std.proofs.Common.{◌≡◌, filter, length}
use Rattle.numbered_graph.specs.Sets.{has}
use Rattle.numbered_graph.proofs.listed.first_member.Given as goal

abbrev pub invariant-loop-node : goal.invariant-loop-node
invariant-loop-node l = filter (has l.members) l.listing ≡ filter (has l.members) l.left

abbrev pub decreases-loop-node : goal.decreases-loop-node
decreases-loop-node l = length l.left
