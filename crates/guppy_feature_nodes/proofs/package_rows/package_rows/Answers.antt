use Rattle.std.proofs.Common.{◌∙◌, ◌++◌, List, Some, ap, map}
use Rattle.guppy_feature_demands.specs.declared.package_at.PackageAt.{PackageAt}
use Rattle.guppy_package_graph.specs.AllViews.{all_packages_left}
use Rattle.guppy_feature_nodes.proofs.RowFacts.{all_listed, all_started, at_place}
use Rattle.guppy_feature_nodes.proofs.package_rows.package_rows.Goals as goal

pub loop-metadata-init : goal.loop-metadata-init
loop-metadata-init c =
    ap (λ (rows : List PackageAt). map Some (map (λ (at : PackageAt). at.row.now) rows) ++ map at_place (all_packages_left c.packages-packages.result)) c.in_ok-rows.ensures.items ∙ all_started c.args.graph.now _ _ c.packages-packages.ensures.graph c.packages-packages.ensures.first

pub returns-clause-rows : goal.returns-clause-rows
returns-clause-rows c = all_listed c.args.graph.now (map (λ at. at.row.now) c.loop-metadata.rows.items) (all_packages_left c.loop-metadata.packages) c.loop-metadata.invariant c.in_default.ensures.steps.0
