use Rattle.std.proofs.Common.{◌≡◌, ◌++◌, map, Some}
use Rattle.guppy_package_graph.specs.AllViews.{all_packages_left}
use Rattle.guppy_feature_nodes.proofs.RowFacts.{at_place}
use Rattle.guppy_feature_nodes.proofs.package_rows.package_rows.Given as goal

abbrev pub invariant-loop-metadata : goal.invariant-loop-metadata
invariant-loop-metadata l = map Some (map (λ at. at.row.now) l.rows.items) ++ map at_place (all_packages_left l.packages) ≡ map Some l.graph.packages
