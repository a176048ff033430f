use Rattle.guppy_feature_demands.specs.NumberedViews.{ends_view}
use Rattle.guppy_feature_demands.proofs.LinkFacts.{names_more}
use Rattle.guppy_feature_demands.proofs.link_names.link_names.Goals as goal

pub loop-ends-preserved : goal.loop-ends-preserved
loop-ends-preserved c = names_more ends_view c.args.links.now c.loop-ends.ends-index c.ends-item.result c.loop-ends-test.true c.ends-item.is c.loop-ends.names c.push_link.new.names c.loop-ends.invariant c.in_ok-push_link.ensures
