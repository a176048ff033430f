use Rattle.std.proofs.Common.{All, length, map}
use Rattle.numbered_graph.specs.ListedViews.{in_direction}
use Rattle.guppy_package_table.specs.Tables.{id_at}
use Rattle.guppy_package_graph.specs.Directions.{direction_of}
use Rattle.guppy_package_graph.specs.PackagesViews.{all_left}
use Rattle.guppy_package_graph.specs.SetValues.{listed}
use Rattle.guppy_feature_graph.proofs.ListFacts.{IsListing, IsOwn}
use Rattle.guppy_feature_graph.proofs.lists_of_packages.lists_for.Given as goal

abbrev pub invariant-loop-package : goal.invariant-loop-package
invariant-loop-package l = IsListing l.set (map (id_at l.packages.graph) (in_direction (direction_of l.fn.direction) (listed l.packages))) (all_left l.left) l.lists.items × All (IsOwn l.set) (all_left l.left)

abbrev pub decreases-loop-package : goal.decreases-loop-package
decreases-loop-package l = length (all_left l.left)
