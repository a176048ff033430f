use Rattle.std.proofs.Common.{[]}
use Rattle.cargo_files.specs.Meaning.{member_feature}
use Rattle.list_facts.proofs.Lists.{flat_more}
use Rattle.cargo_files.proofs.meaning.features_among.Goals as goal

pub loop-package-preserved : goal.loop-package-preserved
loop-package-preserved c =
    flat_more (member_feature c.args.index.now c.args.name.now) [] c.loop-package.features.items c.push_member_feature.new.features.items c.package-item.result c.args.packages.now c.loop-package.package-index _ c.loop-package-test.true c.package-item.is c.in_ok-push_member_feature.ensures c.loop-package.invariant
