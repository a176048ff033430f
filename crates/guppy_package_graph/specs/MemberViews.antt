-- Iterators over members with their paths, and with their names.
use Rattle.std.specs.Prelude.{ℕ, List, map}
use Rattle.std.specs.Borrow.{Bor}
use Rattle.workspace_record.specs.Records.{Text}
use Rattle.guppy_package_table.specs.Tables.{TableValue}
use Rattle.guppy_package_table.specs.Members.{name_at, path_at}
use Rattle.guppy_package_graph.specs.PlaceViews.{graph_of_places, left_of_places}
use Rattle.guppy_package_graph.specs.Views.{graph_of, place_of}
use Rattle.guppy_package_graph.specs.declared.package_metadata.PackageMetadata.{PackageMetadata}
use Rattle.guppy_package_graph.specs.declared.members_by_path.MembersByPath.{MembersByPath}
use Rattle.guppy_package_graph.specs.declared.members_by_name.MembersByName.{MembersByName}

-- a text with the package that it stands for: the text, the graph and the place there
abbrev pub seen_with : Bor Text × PackageMetadata → Text × TableValue × ℕ
seen_with item = (item.0.now, graph_of item.1, place_of item.1)

abbrev pub path_graph_of : MembersByPath → TableValue
path_graph_of m = graph_of_places m.places

abbrev pub path_places_left : MembersByPath → List ℕ
path_places_left m = left_of_places m.places

abbrev pub all_paths_left : MembersByPath → List (Text × TableValue × ℕ)
all_paths_left m = map (λ v. (path_at (path_graph_of m) v, path_graph_of m, v)) (path_places_left m)

abbrev pub called_graph_of : MembersByName → TableValue
called_graph_of m = graph_of_places m.places

abbrev pub called_places_left : MembersByName → List ℕ
called_places_left m = left_of_places m.places

abbrev pub all_names_left : MembersByName → List (Text × TableValue × ℕ)
all_names_left m = map (λ v. (name_at (called_graph_of m) v, called_graph_of m, v)) (called_places_left m)
