use Rattle.std.proofs.Common.{◌≡◌, ◌++◌, map, take}
use Rattle.std.specs.List.{flat_map}
use Rattle.guppy_feature_demands.specs.Demands.{slash_demands}
use Rattle.guppy_feature_demands.specs.DemandViews.{demand_view, form_view}
use Rattle.guppy_feature_demands.specs.HashedViews.{hashed_view}
use Rattle.guppy_feature_demands.specs.NumberedViews.{link_view}
use Rattle.guppy_feature_demands.proofs.demands.push_slash_links.Given as goal

abbrev pub invariant-loop-link : goal.invariant-loop-link
invariant-loop-link l = map demand_view l.demands.items ≡ map demand_view l.fn.demands.items ++ flat_map (slash_demands (form_view l.form) (hashed_view l.from) l.feature) (map link_view (take l.link-index l.links))
