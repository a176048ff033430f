-- Which entries of a resolve fit a dependency.
use Rattle.std.specs.Prelude.{◌≡◌, ◌&&◌, Bool, true, false, not, List, bytes_eq, nat_eq, Option, Some, None}
use Rattle.std.specs.List.{list_any}
use Rattle.workspace_record.specs.Kinds.{line_kind_index}
use Rattle.workspace_record.specs.Records.{Text, Line, Package, Workspace}
use Rattle.workspace_record.specs.Packages.{package_of}
use Rattle.cargo_metadata.specs.Dependencies.{Declared}
use Rattle.cargo_metadata.specs.Resolved.{Entry, Kind}
use Rattle.cargo_record.specs.declared.fitting.Resolution.{Resolution}
use Rattle.cargo_record.specs.declared.fitting.Resolution.TheVariants.{Nothing, To, Several}

-- both name one platform, or none
abbrev pub is_spec : Option Text → Option Text → Bool
is_spec (Some a) (Some b) = bytes_eq a b
is_spec None None = true
is_spec (Some a) None = false
is_spec None (Some b) = false

-- the section and the platform of a line
abbrev pub is_kind : Line → Kind → Bool
is_kind line k = nat_eq (line_kind_index k.kind) (line_kind_index line.kind) && is_spec k.spec line.spec

abbrev pub has_name : Option Package → Text → Bool
has_name (Some p) name = bytes_eq p.name name
has_name None name = false

-- the package with the id has the name
abbrev pub is_named : Workspace → Text → Text → Bool
is_named w id name = has_name (package_of w id) name

-- an entry for the dependency's section and platform, of a package with its name (from Cargo's reference, "External tools")
abbrev pub fits : Workspace → Declared → Entry → Bool
fits w d e = list_any (is_kind d.line) e.kinds && is_named w e.package_id d.package_name

-- such an entry of the package with the id
abbrev pub fits_to : Workspace → Declared → Text → Entry → Bool
fits_to w d id e = bytes_eq e.package_id id && fits w d e

-- such an entry of another package than that with the id
abbrev pub fits_another : Workspace → Declared → Text → Entry → Bool
fits_another w d id e = not (bytes_eq e.package_id id) && fits w d e

-- entries of more than one package fit
abbrev pub several_fit : Workspace → Declared → List Entry → Bool
several_fit w d entries = list_any (λ e. fits w d e && list_any (fits_another w d e.package_id) entries) entries

-- what a dependency was resolved to by these entries: a package of one that fits, nothing where none does, or one of several that fit
abbrev pub IsResolution : Workspace → Declared → List Entry → Resolution → Type 0
IsResolution w d entries Nothing = list_any (fits w d) entries ≡ false
IsResolution w d entries (To id) = list_any (fits_to w d id.now) entries ≡ true
IsResolution w d entries Several = several_fit w d entries ≡ true
