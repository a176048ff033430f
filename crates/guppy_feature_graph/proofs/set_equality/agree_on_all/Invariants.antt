use Rattle.std.proofs.Common.{◌≡◌, true, take}
use Rattle.std.specs.List.{list_all}
use Rattle.guppy_feature_graph.specs.SetEquality.{agree_on}
use Rattle.guppy_feature_graph.proofs.set_equality.agree_on_all.Given as goal

abbrev pub invariant-loop-node : goal.invariant-loop-node
invariant-loop-node l = list_all (agree_on l.a l.b) (take l.node l.built.nodes) ≡ true
