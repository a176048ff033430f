-- Why no record is made of metadata. Of want of memory nothing is said.
use Rattle.std.specs.Prelude.{◌≡◌, ◌⊎◌, ℕ, Bool, true, false, List, [], map, Contains, Option, Some, None, bytes_eq, slice_get, string_bytes}
use Rattle.std.specs.List.{list_any}
use Rattle.workspace_record.specs.Records.{Target, Text, Workspace}
use Rattle.workspace_record.specs.Packages.{is_member}
use Rattle.cargo_metadata.specs.Dependencies.{Declared, name_of}
use Rattle.cargo_metadata.specs.Metadata.{Metadata}
use Rattle.cargo_metadata.specs.Packages.{Declaring}
use Rattle.cargo_metadata.specs.Resolved.{Entry, Node}
use Rattle.cargo_record.specs.Fitting.{fits, several_fit}
use Rattle.cargo_record.specs.Kept.{is_feature, kept_row}
use Rattle.cargo_record.specs.Lines.{counts}
use Rattle.cargo_record.specs.Members.{IsWorkspaceOf, is_member_name, package_with}
use Rattle.cargo_record.specs.declared.fault.RecordFault.{RecordFault}
use Rattle.cargo_record.specs.declared.fault.RecordFault.TheVariants.{Ambiguous, ForeignFeature, Format, Memory, NoDependency, NoMember, NoNode, NoOptional, NoPackage, NoResolve}
use Rattle.cargo_record.specs.declared.members.RequestedMembers.{RequestedMembers}
use Rattle.cargo_record.specs.declared.members.RequestedMembers.TheVariants as wanted

-- the name is one of those that are asked for
abbrev pub AsksFor : RequestedMembers → Text → Type 0
AsksFor (wanted.Named all) name = Contains (map (λ t. t.now) all.now) name
AsksFor wanted.Workspace name = ⊥
AsksFor wanted.Default name = ⊥

-- a name that is asked for is no member's, or a member is no package
abbrev pub RefusesMembers : Metadata → RequestedMembers → RecordFault → Type 0
RefusesMembers m asked (NoMember name) = AsksFor asked (string_bytes name) × (is_member_name m (string_bytes name) ≡ false)
RefusesMembers m asked (NoPackage id) = Contains m.workspace.members (string_bytes id) × (package_with m (string_bytes id) ≡ None)
RefusesMembers m asked Memory = Unit {0}
RefusesMembers m asked _ = ⊥

-- what is told of a dependency: the id of the package that declares it, and its name
abbrev pub AreNames : Text → Text → Text → Declared → Type 0
AreNames id name owner d = (id ≡ owner) × (name ≡ name_of d)

-- a dependency of the package with the id has no line: nothing fits it that has to, or several packages do
abbrev pub HasNoLine : Workspace → Text → List Entry → Declared → RecordFault → Type 0
HasNoLine w owner entries d (NoDependency id name) =
    AreNames (string_bytes id) (string_bytes name) owner d × (d.line.optional ≡ false) × (list_any (fits w d) entries ≡ false)
HasNoLine w owner entries d (NoOptional id name) =
    AreNames (string_bytes id) (string_bytes name) owner d × (d.line.optional ≡ true) × (is_member w owner ≡ true) × (list_any (fits w d) entries ≡ false)
HasNoLine w owner entries d (Ambiguous id name) = AreNames (string_bytes id) (string_bytes name) owner d × (several_fit w d entries ≡ true)
HasNoLine w owner entries d Memory = Unit {0}
HasNoLine w owner entries d _ = ⊥

-- so for one of these dependencies of a package that Cargo resolves
abbrev pub RefusesOne : Workspace → Text → List Entry → List Declared → RecordFault → Type 0
RefusesOne w owner entries ds Memory = Unit {0}
RefusesOne w owner entries ds fault = (d : Declared) × Contains ds d × (counts w owner d ≡ true) × HasNoLine w owner entries d fault

-- a target of the package requires a feature that is none of its own
abbrev pub RefusesTargets : Declaring → RecordFault → Type 0
RefusesTargets p (ForeignFeature id target feature) =
    (string_bytes id ≡ p.row.id) × ((t : Target) × Contains p.row.targets t × (string_bytes target ≡ t.name)
    × Contains t.required_features (string_bytes feature) × (is_feature p.row.features (string_bytes feature) ≡ false))
RefusesTargets p Memory = Unit {0}
RefusesTargets p _ = ⊥

-- the package is a member whose targets are refused, or a dependency is, by what was resolved for it
abbrev pub RefusesPackage : Workspace → List Node → Declaring → RecordFault → Type 0
RefusesPackage w nodes p fault =
    ((is_member w p.row.id ≡ true) × RefusesTargets p fault)
    ⊎ ((n : Node) × Contains nodes n × (n.id ≡ p.row.id) × RefusesOne w p.row.id n.dependencies p.dependencies fault)

-- the node is there, and is that of the package with the id
abbrev pub is_node_of : Text → Option Node → Bool
is_node_of id (Some n) = bytes_eq n.id id
is_node_of id None = false

-- what was resolved for the package with the id does not stand at its place
abbrev pub LacksNode : List Declaring → List Node → Text → Type 0
LacksNode packages nodes id =
    (i : ℕ) × (p : Declaring) × (slice_get packages i ≡ Some p) × (p.row.id ≡ id) × (is_node_of id (slice_get nodes i) ≡ false)

-- one of the packages has no node, or is refused
abbrev pub RefusesPackages : Workspace → List Declaring → List Node → RecordFault → Type 0
RefusesPackages w packages nodes (NoNode id) = LacksNode packages nodes (string_bytes id)
RefusesPackages w packages nodes Memory = Unit {0}
RefusesPackages w packages nodes fault = (p : Declaring) × Contains packages p × RefusesPackage w nodes p fault

-- nothing is resolved, or a package is refused
abbrev pub RefusesLinks : Workspace → Metadata → RecordFault → Type 0
RefusesLinks w m NoResolve = m.nodes ≡ None
RefusesLinks w m Memory = Unit {0}
RefusesLinks w m fault = (nodes : List Node) × (m.nodes ≡ Some nodes) × RefusesPackages w m.packages nodes fault

-- the packages of the metadata, and the members that are asked about, without links
pub record AreRows (m : Metadata) (asked : RequestedMembers) (w : Workspace) : Type 0 where
  pub packages : w.packages ≡ map kept_row m.packages
  pub workspace : IsWorkspaceOf m asked w.workspace
  pub links : w.links ≡ []

-- the format is another one, the members are refused, or the links of these packages
abbrev pub RefusesRecord : Metadata → RequestedMembers → RecordFault → Type 0
RefusesRecord m asked Format = m.format ≡ Some 1 → ⊥
RefusesRecord m asked (NoMember name) = RefusesMembers m asked (NoMember name)
RefusesRecord m asked (NoPackage id) = RefusesMembers m asked (NoPackage id)
RefusesRecord m asked Memory = Unit {0}
RefusesRecord m asked fault = (w : Workspace) × AreRows m asked w × RefusesLinks w m fault
