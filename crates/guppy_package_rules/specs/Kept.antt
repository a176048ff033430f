-- What packages, links and members are like that keep the rules.
use Rattle.std.specs.Prelude.{◌≡◌, ◌≢◌, ◌<◌, List, length, All, Any, AllPairs, Ok}
use Rattle.semver.specs.Parse.{Parts, Held, version_parts, req_of}
use Rattle.workspace_record.specs.Records.{Text, Package, Link, WorkspaceDetails}
use Rattle.guppy_package_rules.specs.Paths.{components}
use Rattle.guppy_package_rules.specs.Rules.{member_name, target_key, link_key}

-- semver reads a version
abbrev pub IsVersion : Text → Type 0
IsVersion text = (version : Parts) × (version_parts text ≡ Ok version)

-- semver reads the comparators of a requirement
abbrev pub IsRequirement : Text → Type 0
IsRequirement text = (comparators : List Held) × (req_of text ≡ Ok comparators)

-- a package has the id
abbrev pub IsPackageId : List Package → Text → Type 0
IsPackageId packages id = Any (λ p. p.id ≡ id) packages

-- a member has the id
abbrev pub IsMemberId : WorkspaceDetails → Text → Type 0
IsMemberId workspace id = Any (λ m. m.package_id ≡ id) workspace.members

-- the rows keep the rules on packages, links and members (from Cargo's metadata)
pub record AreKept (packages : List Package) (links : List Link) (workspace : WorkspaceDetails) : Type 0 where
  pub ids_apart : AllPairs (λ a b. a.id ≢ b.id) packages
  pub versions_read : All (λ p. IsVersion p.version) packages
  pub ends_known : All (λ l. IsPackageId packages l.from × IsPackageId packages l.to) links
  pub links_apart : AllPairs (λ a b. link_key a ≢ link_key b) links
  pub links_have_lines : All (λ l. 0 < length l.lines) links
  pub requirements_read : All (λ l. IsRequirement l.requirement) links
  pub members_known : All (λ m. IsPackageId packages m.package_id) workspace.members
  pub members_apart : AllPairs (λ a b. a.package_id ≢ b.package_id) workspace.members
  pub member_names_apart : AllPairs (λ a b. member_name packages a ≢ member_name packages b) workspace.members
  pub member_paths_apart : AllPairs (λ a b. components a.path ≢ components b.path) workspace.members
  pub defaults_are_members : All (IsMemberId workspace) workspace.default_members
  pub targets_apart : All (λ p. AllPairs (λ a b. target_key a.kind a.name ≢ target_key b.kind b.name) p.targets) packages
