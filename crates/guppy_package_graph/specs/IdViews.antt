-- Iterators over ids of packages.
use Rattle.std.specs.Prelude.{ℕ, List, map}
use Rattle.numbered_graph.specs.ListedViews.{listed_left}
use Rattle.workspace_record.specs.Records.{Text}
use Rattle.guppy_package_table.specs.Tables.{TableValue, id_at}
use Rattle.guppy_package_graph.specs.PlaceViews.{graph_of_places, left_of_places}
use Rattle.guppy_package_graph.specs.declared.package_ids.PackageIdsAt.{PackageIdsAt}
use Rattle.guppy_package_graph.specs.declared.package_ids.PackageIds.{PackageIds}

-- the graph of packages whose ids are still to come, their places, and their ids
abbrev pub ids_graph_of : PackageIdsAt → TableValue
ids_graph_of ids = graph_of_places ids.places

abbrev pub id_places_left : PackageIdsAt → List ℕ
id_places_left ids = left_of_places ids.places

abbrev pub all_ids_left : PackageIdsAt → List Text
all_ids_left ids = map (id_at (ids_graph_of ids)) (id_places_left ids)

-- the same of a set
abbrev pub listed_graph_of : PackageIds → TableValue
listed_graph_of ids = ids.graph.now

abbrev pub listed_places_left : PackageIds → List ℕ
listed_places_left ids = listed_left ids.listed

abbrev pub all_listed_left : PackageIds → List Text
all_listed_left ids = map (id_at (listed_graph_of ids)) (listed_places_left ids)
