use Rattle.std.proofs.Common.{map}
use Rattle.feature_account_making.specs.SourceViews.{sourced_view}
use Rattle.feature_account_making.specs.Sources.{sourced_entries}
use Rattle.list_facts.proofs.Lists.{flat_more}
use Rattle.feature_account_making.proofs.sourcing.push_packages_entries.Goals as goal

pub loop-owner-preserved : goal.loop-owner-preserved
loop-owner-preserved c =
    flat_more (sourced_entries c.args.index.now c.args.table.now) (map sourced_view c.args.sourced.now.items) (map sourced_view c.loop-owner.sourced.items) (map sourced_view c.push_entries.new.sourced.items) c.owner-item.result c.args.packages.now c.loop-owner.owner-index _ c.loop-owner-test.true c.owner-item.is c.in_ok-push_entries.ensures c.loop-owner.invariant
