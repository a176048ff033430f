-- The features that Cargo switches on by its own options.
use Rattle.std.specs.Prelude.{◌≡◌, ◌↔◌, ◌⊎◌, ◌<◌, ⊤, Bool, Result, Ok, Err, IsTrue, length}
use Rattle.workspace_record.specs.Features.{FeatureValue}
use Rattle.guppy_package_parts.specs.declared.error.Error.{Error}
use Rattle.guppy_package_parts.specs.declared.error.Error.TheVariants.{UnknownFeatureId}
use Rattle.guppy_feature_demands.specs.Kinds.{is_base_kind, kind_of}
use Rattle.guppy_feature_demands.specs.Nodes.{number_of}
use Rattle.guppy_feature_nodes.specs.Graphs.{FeatureGraphValue, IsDefault}
use Rattle.guppy_feature_graph.specs.Finding.{IsUnknown}
use Rattle.guppy_feature_graph.specs.declared.standard_features.StandardFeatures.{StandardFeatures}
use Rattle.guppy_feature_graph.specs.declared.standard_features.StandardFeatures.TheVariants.{None, Default, All}

-- the feature stands for its package (from guppy's `StandardFeatures`)
abbrev pub IsBase : FeatureValue → Type 0
IsBase f = IsTrue (is_base_kind (kind_of f.label))

-- the graph has the feature, as a default one (from guppy's `StandardFeatures`)
abbrev pub IsDefaultFeature : FeatureGraphValue → FeatureValue → Type 0
IsDefaultFeature g f = (number_of g.nodes f < length g.nodes) × IsDefault g (number_of g.nodes f)

-- whether the feature is a default one, or that there is none
abbrev pub FindsDefault : FeatureGraphValue → FeatureValue → Result Bool Error → Type 0
FindsDefault g f (Ok answer) = (number_of g.nodes f < length g.nodes) × (IsTrue answer ↔ IsDefault g (number_of g.nodes f))
FindsDefault g f (Err error) = IsUnknown g f × (error ≡ UnknownFeatureId)

-- packages alone; those and default features; all features (from guppy's `StandardFeatures`)
abbrev pub Takes : StandardFeatures → FeatureGraphValue → FeatureValue → Type 0
Takes None g f = IsBase f
Takes Default g f = IsBase f ⊎ IsDefaultFeature g f
Takes All g f = ⊤

-- what a standard filter accepts (from guppy's `StandardFeatures`)
abbrev pub Accepts : StandardFeatures → FeatureGraphValue → FeatureValue → Bool → Type 0
Accepts standard g f answer = IsTrue answer ↔ Takes standard g f
