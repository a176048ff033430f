use Rattle.std.proofs.Common.{◌≡◌, map, take}
use Rattle.guppy_feature_demands.specs.IdViews.{id_view}
use Rattle.guppy_feature_nodes.specs.Graphs.{feature_at}
use Rattle.guppy_feature_views.proofs.told.ids_at.Given as goal

abbrev pub invariant-loop-node : goal.invariant-loop-node
invariant-loop-node l = map id_view l.ids.items ≡ map (feature_at l.built) (take l.node-index l.nodes)
