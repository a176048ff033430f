use Rattle.std.proofs.Common.{◌∙◌, ap}
use Rattle.workspace_record.specs.Records.{Link}
use Rattle.guppy_feature_demands.specs.NumberedViews.{ends_view, link_view}
use Rattle.guppy_feature_demands.proofs.NumberFacts.{numbered_push}
use Rattle.guppy_feature_demands.proofs.numbered.numbered_links.Goals as goal

pub loop-number-preserved : goal.loop-number-preserved
loop-number-preserved c = numbered_push ends_view c.args.links.now c.loop-number.number c.index-links-number.result c.loop-number-test.true c.loop-number.all.items c.push.new.self.items _ c.loop-number.invariant (ap link_view c.of-ends.ensures ∙ ap (λ (row : Link). (c.loop-number.number, row)) c.index-links-number.is) c.in_ok-push.ensures.items
