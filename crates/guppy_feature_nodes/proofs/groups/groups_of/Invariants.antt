use Rattle.std.proofs.Common.{map, take}
use Rattle.guppy_feature_demands.specs.DemandViews.{numbered_view}
use Rattle.guppy_feature_nodes.specs.Joined.{JoinsDemands}
use Rattle.guppy_feature_nodes.proofs.groups.groups_of.Given as goal

abbrev pub invariant-loop-demand : goal.invariant-loop-demand
invariant-loop-demand l = JoinsDemands (map numbered_view (take l.demand-index l.demands)) l.groups
