-- What leads from one feature to another, as Cargo's reference says it of manifests: each rule of the rows makes demands, and those
-- between two different nodes are what the edges of a feature graph are joined from.
pub use Rattle.workspace_record.specs.Features.{line_start}
use Rattle.std.specs.Prelude.{ℕ, Bool, not, ◌&&◌, ◌==◌, nat_lt, List, [], ◌∷◌, ◌++◌, Option, Some, None, map, filter, length, codes, if◌then◌else◌}
use Rattle.std.specs.List.{flat_map}
use Rattle.std.specs.Str.{bytes_eq}
use Rattle.workspace_record.specs.Records.{Text, FeatureEntry, Package, Line, Link}
use Rattle.workspace_record.specs.Features.{FeatureValue}
use Rattle.workspace_record.specs.Entries.{EntryValue, OwnFeature, Dependency, Strong, Weak, entry_value}
use Rattle.guppy_feature_demands.specs.Nodes.{base_of, named_of, dep_of, first_of_each, nodes_of, is_node, number_of}
use Rattle.guppy_feature_demands.specs.Numbered.{numbered, lines_of, links_named}

-- why one feature leads to another; an entry with a slash names a dependency
pub data FormValue : Type 0 where
  FeatureToBase : FormValue
  NamedFeature : FormValue
  NamedFeatureDepColon : FormValue
  StrongSlash : Text → FormValue
  WeakSlash : Text → FormValue
  DependenciesSection : FormValue

-- one feature leads to another, always or by a line that is named by its link and its place in it
pub record DemandValue : Type 0 where
  pub from : FeatureValue
  pub to : FeatureValue
  pub form : FormValue
  pub line : Option (ℕ × ℕ)

-- it leads there always
abbrev pub leads : FormValue → FeatureValue → FeatureValue → DemandValue
leads form f g = record { from = f; to = g; form = form; line = None }

-- it leads there by a line
abbrev pub leads_by : FormValue → FeatureValue → FeatureValue → ℕ × ℕ → DemandValue
leads_by form f g line = record { from = f; to = g; form = form; line = Some line }

-- each feature leads to its package
abbrev pub base_demands : List FeatureValue → List DemandValue
base_demands nodes = map (λ f. leads FeatureToBase f (base_of f.package_id)) nodes

-- an entry with a slash leads by each line of a link to the feature of the link's target
abbrev pub slash_demands : FormValue → FeatureValue → Text → ℕ × Link → List DemandValue
slash_demands form f x link = map (λ line. leads_by form f (named_of link.1.to x) line.0) (lines_of link)

-- a strong entry leads to the optional dependency too, and if there is one, to the feature of its name
abbrev pub dependency_demands : List FeatureValue → Text → FeatureValue → Text → List DemandValue
dependency_demands nodes id f name =
    leads NamedFeatureDepColon f (dep_of id name) ∷ (if is_node nodes (dep_of id name) then leads NamedFeature f (named_of id name) ∷ [] else [])

-- what an entry of the package's feature f demands
abbrev pub entry_demands : List FeatureValue → List (ℕ × Link) → Text → FeatureValue → EntryValue → List DemandValue
entry_demands nodes links id f (OwnFeature name) = leads NamedFeature f (named_of id name) ∷ []
entry_demands nodes links id f (Dependency name) = leads NamedFeatureDepColon f (dep_of id name) ∷ []
entry_demands nodes links id f (Strong name x) =
    flat_map (slash_demands (StrongSlash name) f x) (links_named links id name) ++ dependency_demands nodes id f name
entry_demands nodes links id f (Weak name x) = flat_map (slash_demands (WeakSlash name) f x) (links_named links id name)

-- what the entries of a package's feature demand
abbrev pub feature_demands : List FeatureValue → List (ℕ × Link) → Text → FeatureEntry → List DemandValue
feature_demands nodes links id f =
    flat_map (λ e. entry_demands nodes links id (named_of id f.name) (entry_value e)) f.enables

-- of features of one name the first counts
abbrev pub same_name : FeatureEntry → FeatureEntry → Bool
same_name f g = bytes_eq f.name g.name

-- what the entries of a package's features demand
abbrev pub package_demands : List FeatureValue → List (ℕ × Link) → Package → List DemandValue
package_demands nodes links p = flat_map (feature_demands nodes links p.id) (first_of_each same_name p.features)

-- the feature `default`, where the line asks for it
abbrev pub default_of : Text → Line → List FeatureValue
default_of id line = if line.default_features then named_of id (codes "default") ∷ [] else []

-- what a line asks for: the target, its default features, and those that it lists
abbrev pub line_targets : Link → Line → List FeatureValue
line_targets link line = base_of link.to ∷ (default_of link.to line ++ map (named_of link.to) line.features)

-- what a line of a link demands
abbrev pub line_demands : Link → (ℕ × ℕ) × Line → List DemandValue
line_demands link line =
    map (λ g. leads_by DependenciesSection (line_start link line.1) g line.0) (line_targets link line.1)

-- what a link's lines demand
abbrev pub link_demands : ℕ × Link → List DemandValue
link_demands link = flat_map (line_demands link.1) (lines_of link)

-- what the rows demand: each feature leads to its package, the entries of each package's features, and the lines of each link
-- (from Cargo's reference, "Features")
abbrev pub demands_of : List Package → List Link → List DemandValue
demands_of packages links =
    base_demands (nodes_of packages) ++ (flat_map (package_demands (nodes_of packages) (numbered links)) packages ++ flat_map link_demands (numbered links))

-- a demand whose ends are told by the numbers of nodes
pub record NumberedValue : Type 0 where
  pub from : ℕ
  pub to : ℕ
  pub form : FormValue
  pub line : Option (ℕ × ℕ)

abbrev pub with_numbers : List FeatureValue → DemandValue → NumberedValue
with_numbers nodes d =
    record { from = number_of nodes d.from; to = number_of nodes d.to; form = d.form; line = d.line }

-- both ends are nodes, and not the same one
abbrev pub is_between_nodes : ℕ → NumberedValue → Bool
is_between_nodes nodes d = (nat_lt d.from nodes && nat_lt d.to nodes) && not (d.from == d.to)

-- the demands between two different nodes (from Cargo's reference, "Features")
abbrev pub kept_demands : List FeatureValue → List DemandValue → List NumberedValue
kept_demands nodes ds = filter (is_between_nodes (length nodes)) (map (with_numbers nodes) ds)
