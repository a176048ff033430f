use Rattle.test_select_feature_laws.specs.Laws.{KeptRecordsHaveGraphs}
use Rattle.test_select_feature_laws.proofs.KeptFacts.{features_distinct, optional_named, rows_kept}
use Rattle.test_select_feature_laws.proofs.laws.kept_records_have_graphs.Goals as goal

graph_of : KeptRecordsHaveGraphs
graph_of w g kept graph = record {
  kept = rows_kept w kept;
  optional_names = optional_named w kept;
  distinct = features_distinct w kept;
  packages = graph.packages;
  links = graph.links;
  workspace = graph.workspace;
  built = graph.built;
}

pub returns : goal.returns
returns c = record { graphs = graph_of }
