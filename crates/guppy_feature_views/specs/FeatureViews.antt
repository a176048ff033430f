-- Features of a set, one after the other, and their ids.
use Rattle.std.specs.Prelude.{ℕ, List, map}
use Rattle.numbered_graph.specs.ListedViews.{listed_left}
use Rattle.workspace_record.specs.Features.{FeatureValue}
use Rattle.guppy_feature_nodes.specs.Graphs.{FeatureGraphValue, feature_at}
use Rattle.guppy_feature_views.specs.declared.feature_ids.FeatureIds.{FeatureIds}
use Rattle.guppy_feature_views.specs.declared.features.Features.{Features}

-- the graph of ids that are still to come, and the numbers of their features
abbrev pub ids_graph_of : FeatureIds → FeatureGraphValue
ids_graph_of f = f.built.now

abbrev pub ids_nodes_left : FeatureIds → List ℕ
ids_nodes_left f = listed_left f.listed

-- the features
abbrev pub all_ids_left : FeatureIds → List FeatureValue
all_ids_left f = map (feature_at (ids_graph_of f)) (ids_nodes_left f)

-- the graph of features that are still to come, and their numbers
abbrev pub features_graph_of : Features → FeatureGraphValue
features_graph_of f = f.built.now

abbrev pub features_left : Features → List ℕ
features_left f = listed_left f.listed

-- each feature that is still to come, by its graph and its number
abbrev pub all_features_left : Features → List (FeatureGraphValue × ℕ)
all_features_left f = map (λ v. (features_graph_of f, v)) (features_left f)
