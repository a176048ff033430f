use Rattle.std.proofs.Common.{[]}
use Rattle.guppy_feature_demands.specs.EntriesAt.{at_demands}
use Rattle.guppy_feature_demands.specs.EntryAtView.{entry_at_view}
use Rattle.guppy_feature_demands.proofs.LoopFacts.{said_all, said_more}
use Rattle.guppy_feature_demands.proofs.demands.entry_demands.Goals as goal

pub loop-at-preserved : goal.loop-at-preserved
loop-at-preserved c =
    said_more (at_demands c.args.nodes.now c.args.links.now) (entry_at_view) c.args.entries.now c.loop-at.at-index c.at-item.result c.loop-at-test.true c.at-item.is [] _ _ c.loop-at.invariant c.in_ok-push_entry.ensures

pub returns : goal.returns
returns c = said_all (at_demands c.args.nodes.now c.args.links.now) (entry_at_view) c.args.entries.now c.loop-at.at-index [] _ c.loop-at-test.false c.loop-at.invariant
