use Rattle.std.proofs.Common.{subst}
use Rattle.guppy_feature_nodes.specs.Graphs.{AreListed}
use Rattle.guppy_feature_nodes.specs.Keeping.{data_view}
use Rattle.guppy_feature_nodes.proofs.GraphFacts.{all_listed}
use Rattle.guppy_feature_nodes.proofs.feature_graph_data.FeatureGraphData.package_graph.Goals as goal

pub returns-clause-listed : goal.returns-clause-listed
returns-clause-listed c = subst AreListed c.self.view_is (all_listed (data_view c.self.inside) c.self.invariant.graph c.self.invariant.ids_apart)
