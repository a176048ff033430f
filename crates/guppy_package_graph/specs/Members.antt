-- Members found by path and by name.
use Rattle.std.specs.Prelude.{◌≡◌, ◌⊎◌, ℕ, ◌<◌, List, All, Any, Option, Result, Ok, Err, Some, None, length}
use Rattle.workspace_record.specs.Records.{Text}
use Rattle.guppy_package_parts.specs.declared.error.Error.{Error}
use Rattle.guppy_package_parts.specs.declared.error.Error.TheVariants.{Memory, UnknownWorkspaceName, UnknownWorkspacePath}
use Rattle.guppy_package_table.specs.Tables.{TableValue}
use Rattle.guppy_package_table.specs.Members.{member_at_path, member_called}
use Rattle.guppy_package_graph.specs.Views.{graph_of, place_of}
use Rattle.guppy_package_graph.specs.declared.package_metadata.PackageMetadata.{PackageMetadata}

-- the member at the place has the path; none has it
abbrev pub IsAtPath : TableValue → Text → ℕ → Type 0
IsAtPath g path v = member_at_path g path ≡ Some v

abbrev pub IsUnknownPath : TableValue → Text → Type 0
IsUnknownPath g path = member_at_path g path ≡ None

-- the member at the place has the name; none has it
abbrev pub IsCalled : TableValue → Text → ℕ → Type 0
IsCalled g name v = member_called g name ≡ Some v

abbrev pub IsUnknownName : TableValue → Text → Type 0
IsUnknownName g name = member_called g name ≡ None

-- some member was found
abbrev pub IsMember : Option ℕ → Type 0
IsMember found = (v : ℕ) × (found ≡ Some v)

-- the place of the member with the path, or that there is none
abbrev pub FindsPathPlace : TableValue → Text → Result ℕ Error → Type 0
FindsPathPlace g path (Ok place) = IsAtPath g path place × (place < length g.packages)
FindsPathPlace g path (Err error) = IsUnknownPath g path × (error ≡ UnknownWorkspacePath)

-- the same by name
abbrev pub FindsNamePlace : TableValue → Text → Result ℕ Error → Type 0
FindsNamePlace g name (Ok place) = IsCalled g name place × (place < length g.packages)
FindsNamePlace g name (Err error) = IsUnknownName g name × (error ≡ UnknownWorkspaceName)

-- the member with the path, or that there is none
abbrev pub FindsAtPath : TableValue → Text → Result PackageMetadata Error → Type 0
FindsAtPath g path (Ok metadata) = IsAtPath g path (place_of metadata) × (graph_of metadata ≡ g)
FindsAtPath g path (Err error) = IsUnknownPath g path × (error ≡ UnknownWorkspacePath)

-- the same by name
abbrev pub FindsCalled : TableValue → Text → Result PackageMetadata Error → Type 0
FindsCalled g name (Ok metadata) = IsCalled g name (place_of metadata) × (graph_of metadata ≡ g)
FindsCalled g name (Err error) = IsUnknownName g name × (error ≡ UnknownWorkspaceName)

-- the member at the place has one of the paths, or one of the names
abbrev pub IsAtOneOf : TableValue → List Text → ℕ → Type 0
IsAtOneOf g paths v = Any (λ path. IsAtPath g path v) paths

-- a member has one of the names
abbrev pub IsCalledOneOf : TableValue → List Text → ℕ → Type 0
IsCalledOneOf g names v = Any (λ name. IsCalled g name v) names

-- each of the paths, or of the names, is that of a member
abbrev pub ArePathsKnown : TableValue → List Text → Type 0
ArePathsKnown g paths = All (λ path. (v : ℕ) × IsAtPath g path v) paths

abbrev pub AreNamesKnown : TableValue → List Text → Type 0
AreNamesKnown g names = All (λ name. (v : ℕ) × IsCalled g name v) names

-- memory ran out, or no member has one of the paths, or of the names
abbrev pub IsMissingPath : TableValue → List Text → Error → Type 0
IsMissingPath g paths error = (error ≡ Memory) ⊎ ((error ≡ UnknownWorkspacePath) × Any (IsUnknownPath g) paths)

-- no member has one of the names
abbrev pub IsMissingName : TableValue → List Text → Error → Type 0
IsMissingName g names error = (error ≡ Memory) ⊎ ((error ≡ UnknownWorkspaceName) × Any (IsUnknownName g) names)
