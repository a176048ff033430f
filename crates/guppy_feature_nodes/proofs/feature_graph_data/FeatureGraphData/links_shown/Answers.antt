use Rattle.std.proofs.Common.{subst}
use Rattle.guppy_feature_nodes.specs.Graphs.{IsFeatureGraph}
use Rattle.guppy_feature_nodes.proofs.GraphFacts.{links_within}
use Rattle.guppy_feature_nodes.proofs.feature_graph_data.FeatureGraphData.links_shown.Goals as goal

pub returns-clause-within : goal.returns-clause-within
returns-clause-within c = links_within c.args.self.now (subst IsFeatureGraph c.self.view_is c.self.invariant.graph) c.args.number c.requires c.args.shown
