-- The links of one package, one after the other.
use Rattle.std.specs.Prelude.{ℕ, ◌-◌, ◌==◌, List, [], Option, Some, None, filter, length, map}
use Rattle.std.specs.List.{range_with_len}
use Rattle.numbered_graph.specs.declared.direction.Direction.{Direction}
use Rattle.numbered_graph.specs.declared.link.Link.{Link}
use Rattle.numbered_graph.specs.Links.{near_at}
use Rattle.guppy_package_table.specs.Tables.{TableValue, numbered_links}
use Rattle.guppy_package_graph.specs.Views.{link_graph_of, number_of}
use Rattle.guppy_package_graph.specs.declared.direct_links.DirectLinks.{DirectLinks}
use Rattle.guppy_package_graph.specs.declared.package_link.PackageLink.{PackageLink}

-- the numbers of the links from `at` on that are followed from a place in a direction, ascending
abbrev pub links_from : List Link → Direction → ℕ → ℕ → List ℕ
links_from links d place at = filter (λ j. near_at d links j == place) (range_with_len at (length links - at))

-- all of them (from guppy's `direct_links`)
abbrev pub links_of_place : List Link → Direction → ℕ → List ℕ
links_of_place links d place = links_from links d place 0

-- those from the next one on, if there is one
abbrev pub links_next : List Link → Direction → ℕ → Option ℕ → List ℕ
links_next links d place None = []
links_next links d place (Some at) = links_from links d place at

-- the graph of links that are still to come, and their numbers
abbrev pub direct_graph_of : DirectLinks → TableValue
direct_graph_of l = l.graph.now

abbrev pub links_left : DirectLinks → List ℕ
links_left l = links_next (numbered_links l.graph.now) l.direction l.place l.next

-- a link by its graph and its number
abbrev pub seen_link : PackageLink → TableValue × ℕ
seen_link link = (link_graph_of link, number_of link)

abbrev pub all_links_left : DirectLinks → List (TableValue × ℕ)
all_links_left l = map (λ j. (direct_graph_of l, j)) (links_left l)
