use Rattle.std.proofs.Common.{rules, ◌≡◌, ◌∙◌, ◌<◌, [], length, subst, sym}
use Rattle.guppy_feature_demands.specs.IdViews.{id_view}
use Rattle.guppy_feature_demands.specs.Nodes.{base_of}
use Rattle.guppy_feature_graph.proofs.SetFacts.{same_more}
use Rattle.guppy_feature_graph.proofs.feature_set.same_features.Goals as goal

pub loop-node-preserved : goal.loop-node-preserved
loop-node-preserved c =
    let a = c.args.a.now.nodes in
    let b = c.args.b.now.nodes in
    let sized : length a ≡ length b = search rules in
    let within : c.loop-node.node < length a = subst (λ n. c.loop-node.node < n) c.feature_count-node-end.ensures.count c.loop-node-test.true in
    let same : id_view c.feature_at.result ≡ id_view c.feature_at-in-loop-node.result = search rules in
    same_more a b sized c.loop-node.node (base_of []) within c.loop-node.invariant (sym c.feature_at.ensures.feature ∙ same ∙ c.feature_at-in-loop-node.ensures.feature)
