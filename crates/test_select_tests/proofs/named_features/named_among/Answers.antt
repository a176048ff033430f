use Rattle.std.proofs.Common.{[], map}
use Rattle.nextest_filtering.specs.ContextViews.{listed_as}
use Rattle.test_select_tests.specs.NamedFeatures.{named_pair}
use Rattle.list_facts.proofs.Lists.{flat_more}
use Rattle.test_select_tests.proofs.named_features.named_among.Goals as goal

pub loop-feature-preserved : goal.loop-feature-preserved
loop-feature-preserved c =
    flat_more named_pair [] (map listed_as c.loop-feature.named.items) (map listed_as c.push_named.new.named.items) c.feature-item.result c.args.features.now c.loop-feature.feature-index _ c.loop-feature-test.true c.feature-item.is c.in_ok-push_named.ensures c.loop-feature.invariant
