use Rattle.std.proofs.Common.{map, subst}
use Rattle.guppy_package_parts.specs.declared.dependency_direction.DependencyDirection.TheVariants.{Forward}
use Rattle.guppy_feature_nodes.specs.Graphs.{FeatureGraphValue, feature_at}
use Rattle.guppy_feature_graph.specs.Queries.{IsQueryOf}
use Rattle.guppy_feature_graph.specs.Sets.{listed}
use Rattle.test_select_features.specs.Starts.{IsStart}
use Rattle.test_select_features.proofs.LeadingFacts.{reached_by, where_found}
use Rattle.test_select_features.proofs.resolving.reached_features.Goals as goal

pub returns : goal.returns
returns c =
    let g = c.args.graph.now in
    let choice = c.args.choice.now in
    let s = c.in_ok-reached.reached in
    let query = subst (λ (h : FeatureGraphValue). IsQueryOf h Forward (IsStart h choice) c.in_ok-query.query) c.of.ensures.graph c.in_ok-query.ensures in
    where_found c.args.table.now g (IsStart g choice) c.features_in.result (map (feature_at s.graph) (listed s)) c.features_in.ensures (reached_by c.args.table.now g c.requires.built (IsStart g choice) (λ v start. start.of_member.within) c.in_ok-query.query s query c.in_ok-reached.ensures)
