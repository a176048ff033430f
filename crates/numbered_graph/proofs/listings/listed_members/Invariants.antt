use Rattle.std.proofs.Common.{◌≡◌, take, filter}
use Rattle.numbered_graph.specs.Sets.{has}
use Rattle.numbered_graph.proofs.listings.listed_members.Given as goal

abbrev pub invariant-loop-node : goal.invariant-loop-node
invariant-loop-node l = l.members.items ≡ filter (has l.set) (take l.node-index l.listing)
