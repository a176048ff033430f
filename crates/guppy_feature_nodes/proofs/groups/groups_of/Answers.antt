use Rattle.std.proofs.Common.{map}
use Rattle.guppy_feature_demands.specs.DemandViews.{numbered_view}
use Rattle.guppy_feature_nodes.specs.GroupViews.{entry_view}
use Rattle.guppy_feature_nodes.proofs.GroupFacts.{groups_more}
use Rattle.guppy_feature_nodes.proofs.groups.groups_of.Goals as goal

pub loop-demand-preserved : goal.loop-demand-preserved
loop-demand-preserved c = record {
  entries = groups_more numbered_view c.args.demands.now c.loop-demand.demand-index _ c.loop-demand-test.true (map entry_view c.loop-demand.groups.map.entries) (map entry_view c.push_demand.new.groups.map.entries) c.loop-demand.invariant.entries c.in_ok-push_demand.ensures;
}
