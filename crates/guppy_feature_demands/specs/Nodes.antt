-- The nodes of a feature graph: the features of its packages.
pub use Rattle.workspace_record.specs.Features.{base_of, named_of, dep_of}
use Rattle.std.specs.Prelude.{ℕ, Bool, not, List, [], ◌∷◌, ◌++◌, map, filter}
use Rattle.std.specs.List.{flat_map, list_any, position_or_len}
use Rattle.workspace_record.specs.Records.{Package}
use Rattle.workspace_record.specs.Features.{FeatureValue, feature_eq}

-- a package's features: itself, those that it names, and its optional dependencies
abbrev pub features_of : Package → List FeatureValue
features_of p = base_of p.id ∷ (map (λ f. named_of p.id f.name) p.features ++ map (dep_of p.id) p.optional)

-- of elements that are the same the first
abbrev pub first_of_each : {T : Type 0} → (T → T → Bool) → List T → List T
first_of_each same [] = []
first_of_each same (x ∷ xs) = x ∷ filter (λ y. not (same x y)) (first_of_each same xs)

-- the nodes: the features of each package, each once (from guppy's feature graph)
abbrev pub nodes_of : List Package → List FeatureValue
nodes_of packages = first_of_each feature_eq (flat_map features_of packages)

-- there is such a feature (from guppy's feature graph)
abbrev pub is_node : List FeatureValue → FeatureValue → Bool
is_node nodes f = list_any (feature_eq f) nodes

-- the number of a feature among the nodes; past the end where there is none (from guppy's feature graph)
abbrev pub number_of : List FeatureValue → FeatureValue → ℕ
number_of nodes f = position_or_len (feature_eq f) nodes
