-- Features found by their id.
use Rattle.std.specs.Prelude.{◌≡◌, ◌⊎◌, ℕ, ◌<◌, Bool, true, false, List, All, Any, Result, Ok, Err, length}
use Rattle.numbered_graph.specs.Sets.{has}
use Rattle.workspace_record.specs.Features.{FeatureValue}
use Rattle.guppy_package_parts.specs.declared.error.Error.{Error}
use Rattle.guppy_package_parts.specs.declared.error.Error.TheVariants.{Memory, UnknownFeatureId}
use Rattle.guppy_feature_demands.specs.Nodes.{is_node, number_of}
use Rattle.guppy_feature_nodes.specs.Graphs.{FeatureGraphValue}
use Rattle.guppy_feature_views.specs.Views.{metadata_graph_of, node_of}
use Rattle.guppy_feature_views.specs.declared.feature_metadata.FeatureMetadata.{FeatureMetadata}

-- the feature is the node with this number
abbrev pub IsNumber : FeatureGraphValue → FeatureValue → ℕ → Type 0
IsNumber g f node = (node ≡ number_of g.nodes f) × (node < length g.nodes)

-- there is no such feature
abbrev pub IsUnknown : FeatureGraphValue → FeatureValue → Type 0
IsUnknown g f = is_node g.nodes f ≡ false

-- the number of the feature, or that there is none
abbrev pub FindsNumber : FeatureGraphValue → FeatureValue → Result ℕ Error → Type 0
FindsNumber g f (Ok node) = IsNumber g f node
FindsNumber g f (Err error) = IsUnknown g f × (error ≡ UnknownFeatureId)

-- the feature, or that there is none
abbrev pub FindsFeature : FeatureGraphValue → FeatureValue → Result FeatureMetadata Error → Type 0
FindsFeature g f (Ok metadata) = IsNumber g f (node_of metadata) × (metadata_graph_of metadata ≡ g)
FindsFeature g f (Err error) = IsUnknown g f × (error ≡ UnknownFeatureId)

-- whether the feature is in the set, or that there is none
abbrev pub FindsMembership : FeatureGraphValue → List Bool → FeatureValue → Result Bool Error → Type 0
FindsMembership g included f (Ok answer) = (node : ℕ) × IsNumber g f node × (answer ≡ has included node)
FindsMembership g included f (Err error) = IsUnknown g f × (error ≡ UnknownFeatureId)

-- the node is one of the features
abbrev pub IsNamed : FeatureGraphValue → List FeatureValue → ℕ → Type 0
IsNamed g fs node = Any (λ f. IsNumber g f node) fs

-- each of the features is one of the graph
abbrev pub AreKnown : FeatureGraphValue → List FeatureValue → Type 0
AreKnown g fs = All (λ f. is_node g.nodes f ≡ true) fs

-- memory ran out, or one of the features is unknown
abbrev pub IsMissing : FeatureGraphValue → List FeatureValue → Error → Type 0
IsMissing g fs error = (error ≡ Memory) ⊎ ((error ≡ UnknownFeatureId) × Any (IsUnknown g) fs)
