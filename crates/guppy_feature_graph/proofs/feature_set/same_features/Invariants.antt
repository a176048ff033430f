use Rattle.std.proofs.Common.{◌≡◌, take}
use Rattle.guppy_feature_graph.proofs.feature_set.same_features.Given as goal

abbrev pub invariant-loop-node : goal.invariant-loop-node
invariant-loop-node l = take l.node l.a.nodes ≡ take l.node l.b.nodes
