use Rattle.guppy_feature_demands.specs.Demands.{FormValue, FeatureToBase, NamedFeature, NamedFeatureDepColon, StrongSlash, WeakSlash, DependenciesSection, DemandValue, NumberedValue}
use Rattle.guppy_feature_demands.specs.HashedViews.{hashed_view}
use Rattle.guppy_feature_demands.specs.declared.demand.EdgeKind.{EdgeKind}
use Rattle.guppy_feature_demands.specs.declared.demand.EdgeKind.TheVariants as code
use Rattle.guppy_feature_demands.specs.declared.demand.Demand.{Demand}
use Rattle.guppy_feature_demands.specs.declared.demand.NumberedDemand.{NumberedDemand}

-- what contracts see of a form
abbrev pub form_view : EdgeKind → FormValue
form_view code.FeatureToBase = FeatureToBase
form_view code.NamedFeature = NamedFeature
form_view code.NamedFeatureDepColon = NamedFeatureDepColon
form_view (code.StrongSlash name) = StrongSlash name.now
form_view (code.WeakSlash name) = WeakSlash name.now
form_view code.DependenciesSection = DependenciesSection

-- what contracts see of a demand
abbrev pub demand_view : Demand → DemandValue
demand_view d = record { from = hashed_view d.from; to = hashed_view d.to; form = form_view d.form; line = d.line }

-- what contracts see of a demand between nodes
abbrev pub numbered_view : NumberedDemand → NumberedValue
numbered_view d = record { from = d.from; to = d.to; form = form_view d.form; line = d.line }
