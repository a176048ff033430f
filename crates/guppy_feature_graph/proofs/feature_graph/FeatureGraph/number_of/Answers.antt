use Rattle.std.proofs.Common.{ap, refl, ◌∙◌}
use Rattle.guppy_feature_demands.specs.IdViews.{id_view}
use Rattle.guppy_feature_demands.specs.Nodes.{number_of}
use Rattle.guppy_feature_graph.specs.Views.{feature_graph_of}
use Rattle.guppy_feature_graph.proofs.FoundFacts.{is_unknown}
use Rattle.guppy_feature_graph.proofs.feature_graph.FeatureGraph.number_of.Goals as goal

pub returns-else-number-feature_count : goal.returns-else-number-feature_count
returns-else-number-feature_count c =
    let g = feature_graph_of c.args.self.now in
    (is_unknown g (id_view c.args.feature_id) c.number_of-number.result c.feature_count.result (c.number_of-number.ensures.number ∙ ap (number_of g.nodes) c.name_of.ensures) c.feature_count.ensures.count c.if-number-feature_count.false, refl)
