use Rattle.std.proofs.Common.{◌≡◌, map, take}
use Rattle.std.specs.List.{flat_map}
use Rattle.guppy_feature_demands.specs.Demands.{link_demands}
use Rattle.guppy_feature_demands.specs.DemandViews.{demand_view}
use Rattle.guppy_feature_demands.specs.NumberedViews.{ends_view}
use Rattle.guppy_feature_demands.proofs.demands.link_demands.Given as goal

abbrev pub invariant-loop-link : goal.invariant-loop-link
invariant-loop-link l = map demand_view l.demands.items ≡ flat_map link_demands (map ends_view (take l.link-index l.all))
