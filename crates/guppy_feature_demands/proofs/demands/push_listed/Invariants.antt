use Rattle.std.proofs.Common.{◌≡◌, ◌++◌, map, take, string_bytes}
use Rattle.guppy_feature_demands.specs.Demands.{DependenciesSection, leads_by}
use Rattle.guppy_feature_demands.specs.DemandViews.{demand_view}
use Rattle.guppy_feature_demands.specs.HashedViews.{hashed_view}
use Rattle.guppy_feature_demands.specs.Nodes.{named_of}
use Rattle.guppy_feature_demands.proofs.demands.push_listed.Given as goal

abbrev pub invariant-loop-name : goal.invariant-loop-name
invariant-loop-name l = map demand_view l.demands.items ≡ map demand_view l.fn.demands.items ++ map (λ g. leads_by DependenciesSection (hashed_view l.from) g l.place) (map (named_of l.id.text.now) (map string_bytes (take l.name-index l.names)))
