use Rattle.std.specs.Prelude.{ℕ, List, map}
use Rattle.guppy_package_graph.specs.Views.{link_graph_of, number_of}
use Rattle.guppy_package_graph.specs.declared.package_link.PackageLink.{PackageLink}
use Rattle.guppy_package_table.specs.Tables.{TableValue}
use Rattle.guppy_feature_views.specs.declared.package_links.PackageLinks.{PackageLinks}

-- the graph of links that are still to come, and their numbers
abbrev pub links_graph_of : PackageLinks → TableValue
links_graph_of p = p.graph.now

abbrev pub numbers_left : PackageLinks → List ℕ
numbers_left p = p.numbers.now

-- each link that is still to come, by its graph and its number
abbrev pub all_left : PackageLinks → List (TableValue × ℕ)
all_left p = map (λ n. (links_graph_of p, n)) (numbers_left p)

abbrev pub seen_link : PackageLink → TableValue × ℕ
seen_link l = (link_graph_of l, number_of l)
