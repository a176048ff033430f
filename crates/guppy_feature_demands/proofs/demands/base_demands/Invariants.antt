use Rattle.std.proofs.Common.{◌≡◌, map, take}
use Rattle.guppy_feature_demands.specs.Demands.{base_demands}
use Rattle.guppy_feature_demands.specs.DemandViews.{demand_view}
use Rattle.guppy_feature_demands.specs.HashedViews.{hashed_view}
use Rattle.guppy_feature_demands.proofs.demands.base_demands.Given as goal

abbrev pub invariant-loop-name : goal.invariant-loop-name
invariant-loop-name l = map demand_view l.demands.items ≡ base_demands (map hashed_view (take l.name-index l.names))
