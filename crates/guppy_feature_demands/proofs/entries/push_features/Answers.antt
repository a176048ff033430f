use Rattle.guppy_feature_demands.specs.EntriesAt.{feature_entries}
use Rattle.guppy_feature_demands.specs.NamedRows.{named_view}
use Rattle.guppy_feature_demands.proofs.LoopFacts.{said_all, said_more}
use Rattle.guppy_feature_demands.proofs.entries.push_features.Goals as goal

pub loop-feature-preserved : goal.loop-feature-preserved
loop-feature-preserved c =
    said_more (feature_entries c.args.id.text.now) (named_view) c.args.features.now c.loop-feature.feature-index c.feature-item.result c.loop-feature-test.true c.feature-item.is _ _ _ c.loop-feature.invariant c.in_ok-push_feature.ensures

pub returns : goal.returns
returns c = said_all (feature_entries c.args.id.text.now) (named_view) c.args.features.now c.loop-feature.feature-index _ _ c.loop-feature-test.false c.loop-feature.invariant
