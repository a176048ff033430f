use Rattle.std.proofs.Common.{◌≡◌, filter}
use Rattle.numbered_graph.specs.Listings.{numbers_below}
use Rattle.numbered_graph.specs.Sets.{has}
use Rattle.numbered_graph.proofs.node_set.NodeSet.members.Given as goal

abbrev pub invariant-loop-node : goal.invariant-loop-node
invariant-loop-node l = l.nodes.items ≡ filter (has l.flags) (numbers_below l.node)
