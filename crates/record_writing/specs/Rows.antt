-- What is written for the rows of a record.
use Rattle.std.specs.Prelude.{List, [], ◌∷◌, ◌++◌, codes, map}
use Rattle.serde_json.specs.Data.{Data, boolean, string, array}
use Rattle.serde_json.specs.View.{items_of}
use Rattle.workspace_record.specs.Records.{Text, FeatureEntry, Target, PackageDetails, Package, Line, Link, Member, WorkspaceDetails, Group, Workspace}
use Rattle.workspace_record.specs.declared.kinds.LineKind.{LineKind}
use Rattle.workspace_record.specs.declared.kinds.LineKind.TheVariants.{Normal, Build, Dev}
use Rattle.workspace_record.specs.declared.kinds.TargetKind.{TargetKind}
use Rattle.workspace_record.specs.declared.kinds.TargetKind.TheVariants.{Lib, ProcMacro, Test, Bench, Bin, Example, BuildScript}
use Rattle.record_writing.specs.Members.{object_of, or_null, texts_data}

-- a list of what is written for each
abbrev pub list_of : {A : Type 0} → (A → Data) → List A → Data
list_of written xs = array (items_of (map written xs))

-- the section of a manifest, by name
abbrev pub line_kind_name : LineKind → Text
line_kind_name Normal = codes "normal"
line_kind_name Build = codes "build"
line_kind_name Dev = codes "dev"

-- the members of a line
abbrev pub line_members : Line → List (Text × Data)
line_members l =
    (codes "kind", string (line_kind_name l.kind))
    ∷ (codes "optional", boolean l.optional)
    ∷ (codes "default_features", boolean l.default_features)
    ∷ (codes "features", texts_data l.features)
    ∷ (codes "spec", or_null string l.spec)
    ∷ []

-- a line
abbrev pub line_data : Line → Data
line_data l = object_of (line_members l)

-- the members of a link
abbrev pub link_members : Link → List (Text × Data)
link_members l =
    (codes "from", string l.from)
    ∷ (codes "to", string l.to)
    ∷ (codes "name", string l.name)
    ∷ (codes "requirement", string l.requirement)
    ∷ (codes "registry", or_null string l.registry)
    ∷ (codes "path", or_null string l.path)
    ∷ (codes "lines", list_of line_data l.lines)
    ∷ []

-- a link
abbrev pub link_data : Link → Data
link_data l = object_of (link_members l)

-- the members of a feature
abbrev pub feature_members : FeatureEntry → List (Text × Data)
feature_members f =
    (codes "name", string f.name)
    ∷ (codes "enables", texts_data f.enables)
    ∷ []

-- a feature
abbrev pub feature_data : FeatureEntry → Data
feature_data f = object_of (feature_members f)

-- the kind of a target, by name
abbrev pub target_kind_name : TargetKind → Text
target_kind_name Lib = codes "lib"
target_kind_name ProcMacro = codes "proc-macro"
target_kind_name Test = codes "test"
target_kind_name Bench = codes "bench"
target_kind_name Bin = codes "bin"
target_kind_name Example = codes "example"
target_kind_name BuildScript = codes "build-script"

-- the members of a target
abbrev pub target_members : Target → List (Text × Data)
target_members t =
    (codes "kind", string (target_kind_name t.kind))
    ∷ (codes "name", string t.name)
    ∷ (codes "required_features", texts_data t.required_features)
    ∷ (codes "tested", boolean t.tested)
    ∷ (codes "path", string t.info.path)
    ∷ (codes "edition", string t.info.edition)
    ∷ (codes "crate_types", texts_data t.info.crate_types)
    ∷ (codes "doc", boolean t.info.doc)
    ∷ (codes "doctest", boolean t.info.doctest)
    ∷ []

-- a target
abbrev pub target_data : Target → Data
target_data t = object_of (target_members t)

-- the members for the details of a package, without its metadata
abbrev pub details_members : PackageDetails → List (Text × Data)
details_members d =
    (codes "source", or_null string d.source)
    ∷ (codes "path", or_null string d.path)
    ∷ (codes "manifest_path", string d.manifest_path)
    ∷ (codes "edition", string d.edition)
    ∷ (codes "authors", texts_data d.authors)
    ∷ (codes "categories", texts_data d.categories)
    ∷ (codes "keywords", texts_data d.keywords)
    ∷ (codes "description", or_null string d.description)
    ∷ (codes "license", or_null string d.license)
    ∷ (codes "license_file", or_null string d.license_file)
    ∷ (codes "readme", or_null string d.readme)
    ∷ (codes "repository", or_null string d.repository)
    ∷ (codes "homepage", or_null string d.homepage)
    ∷ (codes "documentation", or_null string d.documentation)
    ∷ (codes "links", or_null string d.links)
    ∷ (codes "default_run", or_null string d.default_run)
    ∷ (codes "rust_version", or_null string d.rust_version)
    ∷ (codes "publish", or_null texts_data d.publish)
    ∷ []

-- the members of a package
abbrev pub package_members : Package → List (Text × Data)
package_members p = details_members p.info ++ (
    (codes "id", string p.id)
    ∷ (codes "name", string p.name)
    ∷ (codes "version", string p.version)
    ∷ (codes "optional", texts_data p.optional)
    ∷ (codes "features", list_of feature_data p.features)
    ∷ (codes "targets", list_of target_data p.targets)
    ∷ [])

-- a package, without its metadata
abbrev pub package_data : Package → Data
package_data p = object_of (package_members p)

-- the members of a member
abbrev pub member_members : Member → List (Text × Data)
member_members m =
    (codes "package", string m.package_id)
    ∷ (codes "path", string m.path)
    ∷ []

-- a member
abbrev pub member_data : Member → Data
member_data m = object_of (member_members m)

-- the members of a workspace
abbrev pub workspace_members : WorkspaceDetails → List (Text × Data)
workspace_members w =
    (codes "root", string w.root)
    ∷ (codes "target_directory", string w.target_directory)
    ∷ (codes "build_directory", or_null string w.build_directory)
    ∷ (codes "default_members", texts_data w.default_members)
    ∷ (codes "members", list_of member_data w.members)
    ∷ []

-- a workspace, without its metadata
abbrev pub workspace_data : WorkspaceDetails → Data
workspace_data w = object_of (workspace_members w)

-- the members of a group of tests
abbrev pub group_members : Group → List (Text × Data)
group_members g =
    (codes "name", string g.name)
    ∷ (codes "filter", string g.filter)
    ∷ []

-- a group of tests
abbrev pub group_data : Group → Data
group_data g = object_of (group_members g)

-- the members of a record
abbrev pub record_members : Workspace → List (Text × Data)
record_members w =
    (codes "default_filter", or_null string w.default_filter)
    ∷ (codes "packages", list_of package_data w.packages)
    ∷ (codes "links", list_of link_data w.links)
    ∷ (codes "workspace", workspace_data w.workspace)
    ∷ (codes "groups", list_of group_data w.groups)
    ∷ []

-- a record, without metadata
abbrev pub record_data : Workspace → Data
record_data w = object_of (record_members w)
