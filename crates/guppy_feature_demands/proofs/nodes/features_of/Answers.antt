use Rattle.std.proofs.Common.{[]}
use Rattle.guppy_feature_demands.specs.Nodes.{features_of}
use Rattle.guppy_feature_demands.specs.declared.package_at.PackageAt.{PackageAt}
use Rattle.guppy_feature_demands.proofs.LoopFacts.{said_all, said_more}
use Rattle.guppy_feature_demands.proofs.nodes.features_of.Goals as goal

pub loop-entry-preserved : goal.loop-entry-preserved
loop-entry-preserved c =
    said_more (features_of) (λ (p : PackageAt). p.row.now) c.args.packages.now c.loop-entry.entry-index c.entry-item.result c.loop-entry-test.true c.entry-item.is [] _ _ c.loop-entry.invariant c.in_ok-push_features.ensures

pub returns : goal.returns
returns c = said_all (features_of) (λ (p : PackageAt). p.row.now) c.args.packages.now c.loop-entry.entry-index [] _ c.loop-entry-test.false c.loop-entry.invariant
