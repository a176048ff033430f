-- The order in which the features of a graph are listed, and the features that are default ones.
use Rattle.std.specs.Prelude.{ℕ, Bool, true, false, not, ◌||◌, List, [], codes, filter, length, map, slice_index_or, if◌then◌else◌}
use Rattle.std.specs.List.{list_any}
use Rattle.std.specs.Option.{option_map_or}
use Rattle.std.specs.Str.{bytes_eq}
use Rattle.numbered_graph.specs.declared.direction.Direction.TheVariants.{Forward}
use Rattle.numbered_graph.specs.Listings.{numbers_below}
use Rattle.numbered_graph.specs.Paths.{IsReached}
use Rattle.numbered_graph.specs.Sets.{has}
use Rattle.workspace_record.specs.Records.{Text, Link}
use Rattle.workspace_record.specs.Features.{LabelValue, Base, Named, Dep, FeatureValue}
use Rattle.workspace_record.specs.declared.kinds.LineKind.TheVariants as kind
use Rattle.guppy_package_parts.specs.Lines.{is_kind, line_at}
use Rattle.guppy_feature_demands.specs.Nodes.{base_of, is_node, named_of, number_of}
use Rattle.guppy_feature_nodes.specs.GraphEdges.{EdgeForm, ToBase, ToFeature, ToDependency, ByStrongEntries, ByWeakEntries, ByLines, EdgeValue, edge_ends, is_always}

-- the line at the place is normal or build
abbrev pub is_firm_line : List Link → ℕ × ℕ → Bool
is_firm_line links place = option_map_or (λ line. not (is_kind kind.Dev line)) (line_at links place) false

-- the edge is crossed always, or one of the lines behind it is normal or build
abbrev pub is_firm_edge : List Link → EdgeValue → Bool
is_firm_edge links e = is_always e.form || list_any (is_firm_line links) e.lines

-- a flag for each edge: whether it stands on more than dev lines
abbrev pub firm_edges : List Link → List EdgeValue → List Bool
firm_edges links edges = map (is_firm_edge links) edges

-- the edge leads to a package itself, or to a feature that another one enables by its name
abbrev pub is_naming : EdgeForm → Bool
is_naming ToBase = true
is_naming ToFeature = true
is_naming ToDependency = false
is_naming ByStrongEntries = false
is_naming (ByWeakEntries dep) = false
is_naming ByLines = false

-- a flag for each edge: whether default features are told along it
abbrev pub naming_edges : List EdgeValue → List Bool
naming_edges edges = map (λ e. is_naming e.form) edges

-- the feature called `default` of the package with an id
abbrev pub default_name : Text
default_name = codes "default"

-- a package's default features are told from this one: from `default`, or where it names none from the package itself
abbrev pub starts_by : List FeatureValue → Text → LabelValue → Bool
starts_by nodes id Base = not (is_node nodes (named_of id default_name))
starts_by nodes id (Named name) = bytes_eq name default_name
starts_by nodes id (Dep name) = false

abbrev pub starts_defaults : List FeatureValue → FeatureValue → Bool
starts_defaults nodes f = starts_by nodes f.package_id f.label

-- the nodes from which default features are told, one of each package
abbrev pub default_starts : List FeatureValue → List ℕ
default_starts nodes = filter (λ v. starts_defaults nodes (slice_index_or nodes v (base_of []))) (numbers_below (length nodes))

-- from one of those nodes, edges along which default features are told lead to the node
abbrev pub IsDefaultAmong : List FeatureValue → List EdgeValue → ℕ → Type 0
IsDefaultAmong nodes edges v = IsReached Forward (edge_ends edges) (has (naming_edges edges)) (default_starts nodes) v

-- the number of a package's `default`, or where it names none of the package itself
abbrev pub default_number : List FeatureValue → Text → ℕ
default_number nodes id =
    if is_node nodes (named_of id default_name) then number_of nodes (named_of id default_name) else number_of nodes (base_of id)
