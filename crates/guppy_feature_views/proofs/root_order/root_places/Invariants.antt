use Rattle.std.proofs.Common.{◌≡◌, ◌⊎◌, [], map, take}
use Rattle.guppy_feature_demands.specs.Nodes.{nodes_of}
use Rattle.guppy_feature_views.specs.RootPlaces.{place_at, place_view}
use Rattle.guppy_feature_views.proofs.root_order.root_places.Given as goal

abbrev pub invariant-loop-node : goal.invariant-loop-node
invariant-loop-node l = record {
  places : map place_view l.places.items ≡ map (place_at l.built) (take l.node-index l.nodes);
  features : (l.places.items ≡ []) ⊎ (l.built.nodes ≡ nodes_of l.built.rows.packages);
}
