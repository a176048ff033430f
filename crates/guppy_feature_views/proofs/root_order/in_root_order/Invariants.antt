use Rattle.std.proofs.Common.{◌≡◌, map, take}
use Rattle.guppy_feature_views.proofs.root_order.in_root_order.Given as goal

abbrev pub invariant-loop-place : goal.invariant-loop-place
invariant-loop-place l = l.ordered.items ≡ map (λ p. p.node) (take l.place-index l.place-items)
