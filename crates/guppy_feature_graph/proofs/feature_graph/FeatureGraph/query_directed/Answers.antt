use Rattle.std.proofs.Common.{IsTrue, map, subst}
use Rattle.numbered_graph.specs.Sets.{has}
use Rattle.guppy_feature_demands.specs.IdViews.{id_view}
use Rattle.guppy_feature_graph.specs.Finding.{IsNamed}
use Rattle.guppy_feature_graph.specs.Queries.{IsQueryOf}
use Rattle.guppy_feature_graph.specs.Sets.{SetValue}
use Rattle.guppy_feature_graph.specs.Views.{feature_graph_of}
use Rattle.guppy_feature_graph.proofs.ResolveFacts.{query_by}
use Rattle.guppy_feature_graph.proofs.feature_graph.FeatureGraph.query_directed.Goals as goal

pub returns-clause-query : goal.returns-clause-query
returns-clause-query c =
    let g = feature_graph_of c.args.self.now in
    let of_set : IsQueryOf g c.args.direction (λ v. IsTrue (has c.in_ok-set.set v)) c.in_ok-query.query = subst (λ (s : SetValue). IsQueryOf s.graph c.args.direction (λ v. IsTrue (has s.included v)) c.in_ok-query.query) c.of.ensures c.in_ok-query.ensures in
    query_by g c.args.direction (λ v. IsTrue (has c.in_ok-set.set v)) (IsNamed g (map id_view c.args.feature_ids.now)) c.in_ok-query.query c.in_ok-set.ensures.named of_set
