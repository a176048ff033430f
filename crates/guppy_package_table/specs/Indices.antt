-- What a table keeps beside its rows, so that nothing is searched for.
use Rattle.std.specs.Prelude.{◌≡◌, ◌≢◌, ◌<◌, List, All, AllPairs, map, length, nat_lt, string_bytes}
use Rattle.numbered_graph.specs.Listings.{IsListing}
use Rattle.numbered_graph.specs.Sets.{has}
use Rattle.guppy_package_rules.specs.Kept.{IsMemberId, IsPackageId}
use Rattle.guppy_package_rules.specs.Readings.{AreRequirementsOf, AreVersionsOf}
use Rattle.workspace_record.specs.Records.{Package, Link, WorkspaceDetails}
use Rattle.guppy_package_table.specs.LinkRows.{name_in_rust}
use Rattle.guppy_package_table.specs.Tables.{firm_flags, ids_of, links_among}
use Rattle.guppy_package_table.specs.MemberPlaces.{AreMembers}
use Rattle.guppy_package_table.specs.declared.indices.LinkIndices.{LinkIndices}
use Rattle.guppy_package_table.specs.declared.indices.PackageIndices.{PackageIndices}

-- of the rules those on packages and members that tell where things stand
pub record ArePackagesKept (packages : List Package) (workspace : WorkspaceDetails) : Type 0 where
  pub ids_apart : AllPairs (λ a b. a.id ≢ b.id) packages
  pub members_known : All (λ m. IsPackageId packages m.package_id) workspace.members
  pub members_apart : AllPairs (λ a b. a.package_id ≢ b.package_id) workspace.members
  pub defaults_are_members : All (IsMemberId workspace) workspace.default_members

-- packages by id, no two of one, the versions that were read, and the places of members
pub record IndexesPackages (packages : List Package) (workspace : WorkspaceDetails) (index : PackageIndices) : Type 0 where
  pub ids : index.ids.keys ≡ ids_of packages
  pub ids_apart : AllPairs (λ a b. a.id ≢ b.id) packages
  pub versions : AreVersionsOf packages index.versions.items
  pub members : AreMembers (ids_of packages) workspace index.members
  pub member_places : All (λ v. v < length packages) index.members.places.items
  pub default_places : All (λ v. v < length packages) index.members.defaults.items

-- the requirements that were read, names as Rust writes them, and the graph of the places with its listing
pub record IndexesLinks (packages : List Package) (links : List Link) (index : LinkIndices) : Type 0 where
  pub requirements : AreRequirementsOf links index.requirements.items
  pub rust_names : map string_bytes index.rust_names.items ≡ map (λ l. name_in_rust l.name) links
  pub graph : index.graph ≡ record { nodes = length packages; links = links_among packages links }
  pub listing : IsListing (links_among packages links) (has (firm_flags links)) (λ v. nat_lt v (length packages)) index.listing.items
