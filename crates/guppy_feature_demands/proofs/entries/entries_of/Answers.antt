use Rattle.std.proofs.Common.{[]}
use Rattle.guppy_feature_demands.specs.EntriesAt.{package_entries}
use Rattle.guppy_feature_demands.specs.declared.package_at.PackageAt.{PackageAt}
use Rattle.guppy_feature_demands.proofs.LoopFacts.{said_all, said_more}
use Rattle.guppy_feature_demands.proofs.entries.entries_of.Goals as goal

pub loop-at-preserved : goal.loop-at-preserved
loop-at-preserved c =
    said_more (package_entries) (λ (p : PackageAt). p.row.now) c.args.packages.now c.loop-at.at-index c.at-item.result c.loop-at-test.true c.at-item.is [] _ _ c.loop-at.invariant c.in_ok-push_package.ensures

pub returns : goal.returns
returns c = said_all (package_entries) (λ (p : PackageAt). p.row.now) c.args.packages.now c.loop-at.at-index [] _ c.loop-at-test.false c.loop-at.invariant
