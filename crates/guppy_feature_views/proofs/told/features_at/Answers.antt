use Rattle.std.proofs.Common.{◌∙◌, ap}
use Rattle.guppy_feature_views.specs.Views.{seen}
use Rattle.list_facts.proofs.Lists.{both_more}
use Rattle.guppy_feature_views.proofs.told.features_at.Goals as goal

pub loop-node-preserved : goal.loop-node-preserved
loop-node-preserved c =
    both_more seen (λ v. (c.args.built.now, v)) c.loop-node.features.items c.push.new.self.items c.at.result c.args.nodes.now c.loop-node.node-index 0 c.loop-node-test.true c.in_ok-push.ensures.items (ap (λ g. (g, c.at.result.node)) c.at.ensures.graph ∙ ap (λ v. (c.args.built.now, v)) c.at.ensures.node) c.loop-node.invariant
