-- What is odd about the features of rows.
use Rattle.std.specs.Prelude.{ℕ, List, [], ◌∷◌, ◌++◌, if◌then◌else◌}
use Rattle.std.specs.List.{flat_map}
use Rattle.std.specs.Str.{bytes_eq}
use Rattle.workspace_record.specs.Records.{Text, FeatureEntry, Package, Line, Link}
use Rattle.workspace_record.specs.Features.{FeatureValue}
use Rattle.guppy_package_parts.specs.Warnings.{Stage, AddNamedFeatureEdges, AddDependencyEdges, Warning, MissingFeature, SelfLoop}
use Rattle.guppy_feature_demands.specs.Printing.{label_text}
use Rattle.workspace_record.specs.Entries.{EntryValue, OwnFeature, Dependency, Strong, Weak, entry_value}
use Rattle.guppy_feature_demands.specs.Nodes.{named_of, dep_of, first_of_each, nodes_of, is_node}
use Rattle.guppy_feature_demands.specs.Numbered.{numbered, links_named}
use Rattle.guppy_feature_demands.specs.Demands.{same_name}

-- a warning where there is no such feature
abbrev pub missing : List FeatureValue → Stage → FeatureValue → List Warning
missing nodes stage f = if is_node nodes f then [] else MissingFeature stage f.package_id (label_text f.label) ∷ []

-- a slash entry names a feature of the target of each of these links
abbrev pub slash_warnings : List FeatureValue → Stage → Text → List (ℕ × Link) → List Warning
slash_warnings nodes stage x links = flat_map (λ link. missing nodes stage (named_of link.1.to x)) links

-- a feature of the same package: the feature itself, or none
abbrev pub own_warnings : List FeatureValue → Text → Text → Text → List Warning
own_warnings nodes id f name =
    if bytes_eq name f then SelfLoop id f ∷ [] else missing nodes (AddNamedFeatureEdges id f) (named_of id name)

-- the warnings of an entry of the package's feature f
abbrev pub entry_warnings : List FeatureValue → List (ℕ × Link) → Text → Text → EntryValue → List Warning
entry_warnings nodes links id f (OwnFeature name) = own_warnings nodes id f name
entry_warnings nodes links id f (Dependency name) = missing nodes (AddNamedFeatureEdges id f) (dep_of id name)
entry_warnings nodes links id f (Strong name x) =
    slash_warnings nodes (AddNamedFeatureEdges id f) x (links_named links id name)
entry_warnings nodes links id f (Weak name x) =
    slash_warnings nodes (AddNamedFeatureEdges id f) x (links_named links id name)

-- the warnings of the entries of a package's feature
abbrev pub feature_warnings : List FeatureValue → List (ℕ × Link) → Text → FeatureEntry → List Warning
feature_warnings nodes links id f = flat_map (λ e. entry_warnings nodes links id f.name (entry_value e)) f.enables

-- the warnings of the entries of a package's features, of those of one name the first
abbrev pub package_warnings : List FeatureValue → List (ℕ × Link) → Package → List Warning
package_warnings nodes links p = flat_map (feature_warnings nodes links p.id) (first_of_each same_name p.features)

-- an optional line is that of an optional dependency of its source
abbrev pub optional_warnings : List FeatureValue → Stage → Link → Line → List Warning
optional_warnings nodes stage link line =
    if line.optional then missing nodes stage (dep_of link.from link.name) else []

-- the warnings of a line of a link
abbrev pub line_warnings : List FeatureValue → Link → Line → List Warning
line_warnings nodes link line =
    let stage = AddDependencyEdges link.from link.name in
    optional_warnings nodes stage link line ++ flat_map (λ x. missing nodes stage (named_of link.to x)) line.features

-- the warnings of a link's lines
abbrev pub link_warnings : List FeatureValue → Link → List Warning
link_warnings nodes link = flat_map (line_warnings nodes link) link.lines

-- the warnings of the rows: of each package's features, and then of each link's lines (from guppy's `FeatureGraphWarning`)
abbrev pub warnings_of : List Package → List Link → List Warning
warnings_of packages links =
    flat_map (package_warnings (nodes_of packages) (numbered links)) packages ++ flat_map (link_warnings (nodes_of packages)) links
