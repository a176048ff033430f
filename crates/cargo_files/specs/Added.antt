-- What becomes of listings when a binary's tests are added.
use Rattle.std.specs.Prelude.{◌≡◌, Bool, true, List, [], ◌∷◌, ◌++◌, map, Option, Some, None, bytes_eq, string_bytes}
use Rattle.std.proofs.Common.{String, Vec, Global}
use Rattle.workspace_record.specs.Records.{Text}
use Rattle.guppy_package_rules.specs.Places.{first_repeat}

-- a binary's id and the names of its tests
abbrev pub listing : String Global × Vec (String Global) Global → Text × List Text
listing e = (string_bytes e.0, map string_bytes e.1.items)

-- a binary of which nothing is listed is left out, if such are; another stands behind those before it, and each of its names once
abbrev pub IsAdded : Text → Option (List Text) → Bool → List (Text × List Text) → List (Text × List Text) → Type 0
IsAdded id None built old new = (built ≡ true) × (new ≡ old)
IsAdded id (Some names) built old new = (first_repeat bytes_eq names ≡ None) × (new ≡ old ++ (id, names) ∷ [])
