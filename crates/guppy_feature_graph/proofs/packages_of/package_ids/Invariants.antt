use Rattle.std.proofs.Common.{◌≡◌, map, take}
use Rattle.guppy_feature_nodes.specs.Graphs.{feature_at}
use Rattle.guppy_feature_graph.proofs.packages_of.package_ids.Given as goal

abbrev pub invariant-loop-node : goal.invariant-loop-node
invariant-loop-node l = map (λ id. id.now) l.ids.items ≡ map (λ v. (feature_at l.built v).package_id) (take l.node-index l.nodes)
