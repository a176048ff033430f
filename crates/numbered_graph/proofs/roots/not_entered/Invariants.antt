use Rattle.std.proofs.Common.{◌≡◌, ◌&&◌, not, get_or, filter}
use Rattle.numbered_graph.specs.Listings.{numbers_below}
use Rattle.numbered_graph.specs.Sets.{has}
use Rattle.numbered_graph.proofs.roots.not_entered.Given as goal

abbrev pub invariant-loop-node : goal.invariant-loop-node
invariant-loop-node l = l.nodes.items ≡ filter (λ v. has l.set v && not (has l.entered (get_or l.ranks v 0))) (numbers_below l.node)
