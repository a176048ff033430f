-- All packages of a graph, one after the other.
use Rattle.std.specs.Prelude.{ℕ, ◌-◌, List, length, map}
use Rattle.std.specs.List.{range_with_len}
use Rattle.guppy_package_table.specs.Tables.{TableValue}
use Rattle.guppy_package_graph.specs.declared.all_packages.AllPackages.{AllPackages}

-- the graph of packages that are still to come, and the place of the first
abbrev pub all_graph_of : AllPackages → TableValue
all_graph_of p = p.graph.now

abbrev pub first_left : AllPackages → ℕ
first_left p = p.next

-- each package from that place on, by its graph and its place
abbrev pub all_packages_left : AllPackages → List (TableValue × ℕ)
all_packages_left p = map (λ v. (all_graph_of p, v)) (range_with_len (first_left p) (length (all_graph_of p).packages - first_left p))
