use Rattle.std.proofs.Common.{◌≡◌, map, take}
use Rattle.std.specs.List.{flat_map}
use Rattle.guppy_feature_demands.specs.DemandViews.{demand_view}
use Rattle.guppy_feature_demands.specs.EntriesAt.{at_demands}
use Rattle.guppy_feature_demands.specs.EntryAtView.{entry_at_view}
use Rattle.guppy_feature_demands.proofs.demands.entry_demands.Given as goal

abbrev pub invariant-loop-at : goal.invariant-loop-at
invariant-loop-at l = map demand_view l.demands.items ≡ flat_map (at_demands l.nodes l.links) (map entry_at_view (take l.at-index l.entries))
