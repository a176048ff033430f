use Rattle.std.proofs.Common.{◌≡◌, [], filter, slice_index_or}
use Rattle.numbered_graph.specs.Listings.{numbers_below}
use Rattle.guppy_feature_demands.specs.Nodes.{base_of}
use Rattle.guppy_feature_nodes.specs.Orders.{starts_defaults}
use Rattle.guppy_feature_nodes.proofs.orders.default_starts.Given as goal

abbrev pub invariant-loop-number : goal.invariant-loop-number
invariant-loop-number l = l.starts.items ≡ filter (λ v. starts_defaults l.nodes (slice_index_or l.nodes v (base_of []))) (numbers_below l.number)
