-- Closures that say of each feature whether it is taken.
use Rattle.std.specs.Prelude.{◌≡◌, Bool}
use Rattle.std.specs.Borrow.{Bor}
use Rattle.std.specs.Fn.{Shared, FnReturns}
use Rattle.workspace_record.specs.Features.{FeatureValue}
use Rattle.guppy_feature_demands.specs.IdViews.{id_view}
use Rattle.guppy_feature_demands.specs.declared.feature_id.FeatureId.{FeatureId}
use Rattle.guppy_feature_nodes.specs.Graphs.{FeatureGraphValue}
use Rattle.guppy_feature_graph.specs.Views.{feature_graph_of}
use Rattle.guppy_feature_graph.specs.declared.feature_graph.FeatureGraph.{FeatureGraph}

-- the closure is called with the graph and the feature, and answers
pub record AnswersFilter {F : Type 0} (call : Shared F (Bor FeatureGraph × (FeatureId × Unit {0})) Bool) (f : F) (g : FeatureGraphValue) (feature : FeatureValue) (answer : Bool) : Type 0 where
  pub graph : Bor FeatureGraph
  pub id : FeatureId
  pub of_graph : feature_graph_of graph.now ≡ g
  pub of_feature : id_view id ≡ feature
  pub says : FnReturns call f (graph, (id, tt)) answer
