use Rattle.std.proofs.Common.{◌≡◌, ◌++◌, map, take}
use Rattle.guppy_feature_demands.specs.Demands.{kept_demands}
use Rattle.guppy_feature_demands.specs.DemandViews.{demand_view, numbered_view}
use Rattle.guppy_feature_demands.proofs.numbering.keep_demands.Given as goal

abbrev pub invariant-loop-demand : goal.invariant-loop-demand
invariant-loop-demand l = record {
  kept : map numbered_view l.kept.items ≡ map numbered_view l.fn.kept.items ++ kept_demands l.nodes (map demand_view (take l.demand-index l.demands));
  from : l.from.nodes.now ≡ l.nodes;
  base : l.base.nodes.now ≡ l.nodes;
  to : l.to.nodes.now ≡ l.nodes;
}
