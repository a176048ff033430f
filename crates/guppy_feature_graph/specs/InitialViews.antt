-- The packages of a query's initials, one after the other.
use Rattle.std.specs.Prelude.{ℕ, List, filter, slice_get}
use Rattle.guppy_package_graph.specs.AllViews.{all_packages_left}
use Rattle.guppy_package_table.specs.Tables.{TableValue}
use Rattle.guppy_feature_graph.specs.FeaturesFor.{has_row}
use Rattle.guppy_feature_graph.specs.declared.initial_packages.InitialPackages.{InitialPackages}

-- each package that is still to come, by its graph and its place
abbrev pub initial_packages_left : InitialPackages → List (TableValue × ℕ)
initial_packages_left i = filter (λ p. has_row i.initials.now (slice_get p.0.packages p.1)) (all_packages_left i.packages)
