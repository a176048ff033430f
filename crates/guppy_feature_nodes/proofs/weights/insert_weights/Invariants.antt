use Rattle.std.proofs.Common.{map, take}
use Rattle.guppy_feature_demands.specs.DemandViews.{numbered_view}
use Rattle.guppy_feature_nodes.specs.Weights.{FindsWeights}
use Rattle.guppy_feature_nodes.specs.KeyViews.{key_view}
use Rattle.guppy_feature_nodes.proofs.weights.insert_weights.Given as goal

abbrev pub invariant-loop-demand : goal.invariant-loop-demand
invariant-loop-demand l = FindsWeights (map numbered_view (take l.demand-index l.demands)) (map key_view l.set.keys)
