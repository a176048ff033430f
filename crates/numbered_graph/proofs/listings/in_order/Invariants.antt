use Rattle.std.proofs.Common.{◌≡◌, take, map}
use Rattle.numbered_graph.proofs.listings.in_order.Given as goal

abbrev pub invariant-loop-place : goal.invariant-loop-place
invariant-loop-place l = l.nodes.items ≡ map (λ p. p.node) (take l.place-index l.place-items)
