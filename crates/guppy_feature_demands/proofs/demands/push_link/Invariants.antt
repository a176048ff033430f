use Rattle.std.proofs.Common.{◌≡◌, ◌++◌, map, take}
use Rattle.std.specs.List.{flat_map}
use Rattle.guppy_feature_demands.specs.Demands.{line_demands}
use Rattle.guppy_feature_demands.specs.DemandViews.{demand_view}
use Rattle.guppy_feature_demands.specs.Numbered.{numbered}
use Rattle.guppy_feature_demands.proofs.demands.push_link.Given as goal

abbrev pub invariant-loop-number : goal.invariant-loop-number
invariant-loop-number l = map demand_view l.demands.items ≡ map demand_view l.fn.demands.items ++ flat_map (λ line. line_demands l.link.at.row.now ((l.link.at.number, line.0), line.1)) (numbered (take l.number l.lines))
