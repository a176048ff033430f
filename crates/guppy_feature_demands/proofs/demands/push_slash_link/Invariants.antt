use Rattle.std.proofs.Common.{◌≡◌, ◌++◌, map, take}
use Rattle.guppy_feature_demands.specs.Demands.{leads_by}
use Rattle.guppy_feature_demands.specs.DemandViews.{demand_view, form_view}
use Rattle.guppy_feature_demands.specs.HashedViews.{hashed_view}
use Rattle.guppy_feature_demands.specs.Numbered.{numbered}
use Rattle.guppy_feature_demands.proofs.demands.push_slash_link.Given as goal

abbrev pub invariant-loop-number : goal.invariant-loop-number
invariant-loop-number l = map demand_view l.demands.items ≡ map demand_view l.fn.demands.items ++ map (λ line. leads_by (form_view l.form) (hashed_view l.from) (hashed_view l.to) (l.link.number, line.0)) (numbered (take l.number l.lines))
