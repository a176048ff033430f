-- Which members of a workspace are asked about, and what the record says of them.
use Rattle.std.specs.Prelude.{◌≡◌, Bool, true, false, ◌&&◌, List, [], ◌∷◌, take, drop, length, filter, map, find, bytes_eq, nat_eq, Option, Some, None, if◌then◌else◌}
use Rattle.std.specs.List.{list_any, list_all}
use Rattle.std.specs.Option.{option_map_or}
use Rattle.workspace_record.specs.Records.{Text, Member, WorkspaceDetails}
use Rattle.cargo_metadata.specs.Folders.{folder_of}
use Rattle.cargo_metadata.specs.Metadata.{Metadata, Names}
use Rattle.cargo_metadata.specs.Packages.{Declaring}
use Rattle.cargo_record.specs.declared.members.RequestedMembers.{RequestedMembers}
use Rattle.cargo_record.specs.declared.members.RequestedMembers.TheVariants.{Default, Workspace, Named}

-- the package with this id: of several the first
abbrev pub package_with : Metadata → Text → Option Declaring
package_with m id = find (λ p. bytes_eq p.row.id id) m.packages

-- the id stands among these
abbrev pub is_among : List Text → Text → Bool
is_among ids id = list_any (λ other. bytes_eq other id) ids

-- the default members: those that the file names, and all where it names none
abbrev pub is_default : Option (List Text) → Text → Bool
is_default (Some ids) id = is_among ids id
is_default None id = true

-- with no option the default members are asked about, with `--workspace` all, with `-p` those with one of the names
-- (from Cargo's reference, "Workspaces", "cargo test")
abbrev pub is_wanted : RequestedMembers → Names → Text → Text → Bool
is_wanted Workspace names id name = true
is_wanted (Named all) names id name = list_any (λ other. bytes_eq other.now name) all.now
is_wanted Default names id name = is_default names.default_members id

-- the member with the id is asked about, by the name of its package
abbrev pub is_asked : Metadata → RequestedMembers → Text → Bool
is_asked m wanted id = option_map_or (λ p. is_wanted wanted m.workspace id p.row.name) (package_with m id) false

-- the members that are asked about, in the order of the workspace (from Cargo's reference, "Workspaces", "cargo test")
abbrev pub asked : Metadata → RequestedMembers → List Text
asked m wanted = filter (is_asked m wanted) m.workspace.members

-- a path without the slash at its head
abbrev pub unslashed : Text → Text
unslashed [] = []
unslashed (b ∷ bs) = if nat_eq b 47 then bs else b ∷ bs

-- the path of a folder below another one; a folder elsewhere is named as it is
abbrev pub below : Text → Text → Text
below root folder = if bytes_eq (take (length root) folder) root then unslashed (drop (length root) folder) else folder

-- where the package with the id lies below the workspace
abbrev pub path_of : Metadata → Text → Text
path_of m id = option_map_or (λ p. below m.workspace.root (folder_of p.row.info.manifest_path)) (package_with m id) []

-- the member with this id
abbrev pub member_with : Metadata → Text → Member
member_with m id = record { package_id = id; path = path_of m id }

-- the ids of members
abbrev pub ids : List Member → List Text
ids members = map (λ member. member.package_id) members

-- the default members that are named
abbrev pub named_defaults : Option (List Text) → List Text
named_defaults (Some ids) = ids
named_defaults None = []

-- a member has the name
abbrev pub is_member_name : Metadata → Text → Bool
is_member_name m name = list_any (λ p. bytes_eq p.row.name name && is_among m.workspace.members p.row.id) m.packages

-- each name that is asked for is a member's (from Cargo's reference, "Workspaces", "cargo test")
abbrev pub are_names : Metadata → RequestedMembers → Bool
are_names m (Named all) = list_all (λ name. is_member_name m name.now) all.now
are_names m Workspace = true
are_names m Default = true

-- the workspace of the record: its folders, the members that are asked about, the default members among these, and no metadata
-- (from Cargo's reference, "Workspaces", "cargo test")
pub record IsWorkspaceOf (m : Metadata) (wanted : RequestedMembers) (w : WorkspaceDetails) : Type 0 where
  pub root : w.root ≡ m.workspace.root
  pub target_directory : w.target_directory ≡ m.workspace.target_directory
  pub build_directory : w.build_directory ≡ m.workspace.build_directory
  pub members : w.members ≡ map (member_with m) (asked m wanted)
  pub default_members : w.default_members ≡ filter (is_among (ids w.members)) (named_defaults m.workspace.default_members)
  pub metadata : w.metadata ≡ None
