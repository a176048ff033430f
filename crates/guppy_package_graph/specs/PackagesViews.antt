use Rattle.std.specs.Prelude.{ℕ, List, map}
use Rattle.numbered_graph.specs.ListedViews.{listed_left}
use Rattle.guppy_package_table.specs.Tables.{TableValue}
use Rattle.guppy_package_graph.specs.declared.packages.Packages.{Packages}

-- the graph of packages that are still to come, and their places
abbrev pub packages_graph_of : Packages → TableValue
packages_graph_of p = p.graph.now

abbrev pub packages_left : Packages → List ℕ
packages_left p = listed_left p.listed

-- each package that is still to come, by its graph and its place
abbrev pub all_left : Packages → List (TableValue × ℕ)
all_left p = map (λ v. (packages_graph_of p, v)) (packages_left p)
