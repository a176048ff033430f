use Rattle.guppy_package_graph.specs.PackagesViews.{all_left}
use Rattle.guppy_package_graph.specs.SetValues.{listed}
use Rattle.test_select_changes.proofs.FolderFacts.{IsCollecting}
use Rattle.test_select_changes.proofs.folders.unordered_folders.Given as goal

abbrev pub invariant-loop-package : goal.invariant-loop-package
invariant-loop-package l = IsCollecting l.packages.graph (listed l.packages) (all_left l.package-iterator) l.folders.items
