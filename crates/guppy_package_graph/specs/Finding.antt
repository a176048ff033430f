-- Packages found by their id.
use Rattle.std.specs.Prelude.{◌≡◌, ◌⊎◌, ℕ, ◌<◌, Bool, List, All, Any, IsTrue, Result, Ok, Err, Some, None, length, position}
use Rattle.numbered_graph.specs.Sets.{has}
use Rattle.std.specs.Str.{bytes_eq}
use Rattle.workspace_record.specs.Records.{Text}
use Rattle.guppy_package_parts.specs.declared.error.Error.{Error}
use Rattle.guppy_package_parts.specs.declared.error.Error.TheVariants.{Memory, UnknownPackageId}
use Rattle.guppy_package_table.specs.Tables.{TableValue, ids_of}
use Rattle.guppy_package_table.specs.Members.{name_at}
use Rattle.guppy_package_graph.specs.Views.{graph_of, place_of}
use Rattle.guppy_package_graph.specs.declared.package_metadata.PackageMetadata.{PackageMetadata}

-- the id is that of the package at this place
abbrev pub IsAt : TableValue → Text → ℕ → Type 0
IsAt g id place = position (bytes_eq id) (ids_of g.packages) ≡ Some place

-- no package has the id
abbrev pub IsUnknown : TableValue → Text → Type 0
IsUnknown g id = position (bytes_eq id) (ids_of g.packages) ≡ None

-- the place of the package with the id, or that there is none
abbrev pub FindsPlace : TableValue → Text → Result ℕ Error → Type 0
FindsPlace g id (Ok place) = IsAt g id place × (place < length g.packages)
FindsPlace g id (Err error) = IsUnknown g id × (error ≡ UnknownPackageId)

-- the package with the id, or that there is none
abbrev pub FindsPackage : TableValue → Text → Result PackageMetadata Error → Type 0
FindsPackage g id (Ok metadata) = IsAt g id (place_of metadata) × (graph_of metadata ≡ g)
FindsPackage g id (Err error) = IsUnknown g id × (error ≡ UnknownPackageId)

-- whether the package with the id is in the set, or that there is none
abbrev pub FindsMembership : TableValue → List Bool → Text → Result Bool Error → Type 0
FindsMembership g included id (Ok answer) = (place : ℕ) × IsAt g id place × (answer ≡ has included place)
FindsMembership g included id (Err error) = IsUnknown g id × (error ≡ UnknownPackageId)

-- the package at the place has one of the ids
abbrev pub IsNamed : TableValue → List Text → ℕ → Type 0
IsNamed g ids v = Any (λ id. IsAt g id v) ids

-- the package at the place is called so
abbrev pub HasName : TableValue → Text → ℕ → Type 0
HasName g name v = (v < length g.packages) × IsTrue (bytes_eq (name_at g v) name)

-- each of the ids is that of a package
abbrev pub AreKnown : TableValue → List Text → Type 0
AreKnown g ids = All (λ id. (v : ℕ) × IsAt g id v) ids

-- memory ran out, or one of the ids is unknown
abbrev pub IsMissing : TableValue → List Text → Error → Type 0
IsMissing g ids error = (error ≡ Memory) ⊎ ((error ≡ UnknownPackageId) × Any (IsUnknown g) ids)
