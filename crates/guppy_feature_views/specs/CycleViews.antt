-- The cycles of a graph, one after the other.
use Rattle.std.specs.Prelude.{ℕ, List, map}
use Rattle.workspace_record.specs.Features.{FeatureValue}
use Rattle.guppy_feature_nodes.specs.Graphs.{FeatureGraphValue, feature_at}
use Rattle.guppy_feature_views.specs.declared.all_cycles.AllCycles.{AllCycles}
use Rattle.guppy_feature_views.specs.declared.feature_ids_at.FeatureIdsAt.{FeatureIdsAt}

-- the graph of ids that are still to come, and the numbers of their features
abbrev pub nodes_graph_of : FeatureIdsAt → FeatureGraphValue
nodes_graph_of f = f.built.now

abbrev pub nodes_left : FeatureIdsAt → List ℕ
nodes_left f = f.nodes.now

-- the features
abbrev pub all_nodes_left : FeatureIdsAt → List FeatureValue
all_nodes_left f = map (feature_at (nodes_graph_of f)) (nodes_left f)

-- the graph of cycles that are still to come, and the numbers of each one's features
abbrev pub cycles_graph_of : AllCycles → FeatureGraphValue
cycles_graph_of c = c.built.now

abbrev pub cycles_left : AllCycles → List (List ℕ)
cycles_left c = map (λ x. x.items) c.cycles.now

-- a cycle by its graph and its features' numbers
abbrev pub seen_cycle : FeatureIdsAt → FeatureGraphValue × List ℕ
seen_cycle ids = (nodes_graph_of ids, nodes_left ids)

abbrev pub all_cycles_left : AllCycles → List (FeatureGraphValue × List ℕ)
all_cycles_left c = map (λ x. (cycles_graph_of c, x.items)) c.cycles.now
