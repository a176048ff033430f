use Rattle.std.proofs.Common.{[], ◌∙◌, ap, flat_map}
use Rattle.guppy_feature_demands.specs.Demands.{link_demands}
use Rattle.guppy_feature_demands.specs.NumberedViews.{ends_view}
use Rattle.guppy_feature_demands.proofs.LoopFacts.{said_all, said_more}
use Rattle.guppy_feature_demands.proofs.demands.link_demands.Goals as goal

pub loop-link-preserved : goal.loop-link-preserved
loop-link-preserved c =
    said_more (link_demands) (ends_view) c.all-all.result.now c.loop-link.link-index c.link-item.result c.loop-link-test.true c.link-item.is [] _ _ c.loop-link.invariant c.in_ok-push_link.ensures

pub returns : goal.returns
returns c = said_all (link_demands) (ends_view) c.all-all.result.now c.loop-link.link-index [] _ c.loop-link-test.false c.loop-link.invariant ∙ ap (flat_map link_demands) c.all-all.ensures
