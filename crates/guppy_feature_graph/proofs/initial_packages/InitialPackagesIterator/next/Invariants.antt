use Rattle.std.proofs.Common.{◌≡◌, length}
use Rattle.guppy_package_graph.specs.AllViews.{all_packages_left}
use Rattle.guppy_feature_graph.specs.InitialViews.{initial_packages_left}
use Rattle.guppy_feature_graph.proofs.initial_packages.InitialPackagesIterator.next.Given as goal

abbrev pub invariant-loop-package : goal.invariant-loop-package
invariant-loop-package l = record {
  initials : l.self.initials ≡ l.initial.self.initials;
  left : initial_packages_left l.initial.self ≡ initial_packages_left l.self;
}

abbrev pub decreases-loop-package : goal.decreases-loop-package
decreases-loop-package l = length (all_packages_left l.self.packages)
