use Rattle.std.proofs.Common.{◌≡◌, ◌<◌, All, length, map, take}
use Rattle.guppy_feature_demands.specs.Nodes.{number_of}
use Rattle.guppy_feature_demands.specs.IdViews.{id_view}
use Rattle.guppy_feature_graph.specs.Views.{feature_graph_of}
use Rattle.guppy_feature_graph.proofs.found_features.numbers_of.Given as goal

abbrev pub invariant-loop-feature_id : goal.invariant-loop-feature_id
invariant-loop-feature_id l = record {
  found : l.numbers.items ≡ map (number_of (feature_graph_of l.graph).nodes) (map id_view (take l.feature_id-index l.feature_ids));
  within : All (λ n. n < length (feature_graph_of l.graph).nodes) l.numbers.items;
}
