use Rattle.std.specs.Prelude.{ℕ, List, map}
use Rattle.numbered_graph.specs.Links.{near_at}
use Rattle.guppy_package_parts.specs.declared.dependency_direction.DependencyDirection.{DependencyDirection}
use Rattle.guppy_package_table.specs.Tables.{TableValue, numbered_links}
use Rattle.guppy_package_graph.specs.Directions.{direction_of}
use Rattle.guppy_package_graph.specs.PlaceViews.{graph_of_places, left_of_places}
use Rattle.guppy_package_graph.specs.declared.package_metadata.PackageMetadata.{PackageMetadata}
use Rattle.guppy_package_graph.specs.declared.package_link.PackageLink.{PackageLink}
use Rattle.guppy_package_graph.specs.declared.packages_at.PackagesAt.{PackagesAt}

-- the graph of a package, and its place there
abbrev pub graph_of : PackageMetadata → TableValue
graph_of m = m.graph.now

abbrev pub place_of : PackageMetadata → ℕ
place_of m = m.place

-- both
abbrev pub seen : PackageMetadata → TableValue × ℕ
seen m = (graph_of m, place_of m)

-- the graph of a link, and its number there
abbrev pub link_graph_of : PackageLink → TableValue
link_graph_of l = l.graph.now

abbrev pub number_of : PackageLink → ℕ
number_of l = l.number

-- the graph of packages that are still to come, and their places
abbrev pub packages_graph_of : PackagesAt → TableValue
packages_graph_of p = graph_of_places p.places

abbrev pub places_left : PackagesAt → List ℕ
places_left p = left_of_places p.places

-- each package that is still to come, by its graph and its place
abbrev pub all_left : PackagesAt → List (TableValue × ℕ)
all_left p = map (λ v. (packages_graph_of p, v)) (places_left p)

-- the place from which a link is followed in a direction
abbrev pub near_place : DependencyDirection → PackageLink → ℕ
near_place direction link = near_at (direction_of direction) (numbered_links link.graph.now) link.number
