use Rattle.std.proofs.Common.{◌≡◌, ◌++◌, length, map}
use Rattle.guppy_package_table.specs.Tables.{id_at}
use Rattle.guppy_package_graph.specs.Views.{all_left}
use Rattle.guppy_feature_graph.specs.PackageFeatures.{id_seen}
use Rattle.guppy_feature_graph.proofs.package_sets.initial_ids.Given as goal

abbrev pub invariant-loop-package : goal.invariant-loop-package
invariant-loop-package l = map (λ id. id.now) l.ids.items ++ map id_seen (all_left l.packages) ≡ map (id_at l.query.graph) l.query.initials

abbrev pub decreases-loop-package : goal.decreases-loop-package
decreases-loop-package l = length (all_left l.packages)
