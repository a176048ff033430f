-- The packages that Cargo lists.
use Rattle.std.specs.Prelude.{List, [], ◌∷◌, ◌++◌, Bool, ◌||◌, ◌&&◌, not, bytes_eq, codes, if◌then◌else◌, Option, Some, None, ok_or, Result, Ok, Err}
use Rattle.std.specs.List.{list_any}
use Rattle.serde_json.specs.Data.{Data, Members, no_members, member}
use Rattle.workspace_record.specs.Records.{Text, FeatureEntry, Target, Package}
use Rattle.workspace_record.specs.declared.kinds.TargetKind.{TargetKind}
use Rattle.workspace_record.specs.declared.kinds.TargetKind.TheVariants.{Lib, ProcMacro, Test, Bench, Bin, Example, BuildScript}
use Rattle.cargo_metadata.specs.Faults.{Fault, at_key, unknown_kind}
use Rattle.cargo_metadata.specs.declared.key.Key.{Key}
use Rattle.cargo_metadata.specs.declared.key.Key.TheVariants as key
use Rattle.cargo_metadata.specs.Outcomes.{◌>>=◌}
use Rattle.cargo_metadata.specs.Dependencies.{Declared, dependency_of, name_of}
use Rattle.cargo_metadata.specs.Details.{details_of}
use Rattle.cargo_metadata.specs.Values.{each, required, text_at, texts_of, texts_at, texts_or_none, flag_at, members_of, objects_at}

-- the kinds of targets, by name; each kind of library is one
abbrev pub target_kind : Text → Option TargetKind
target_kind name =
    if bytes_eq name (codes "lib") || bytes_eq name (codes "rlib") || bytes_eq name (codes "dylib") || bytes_eq name (codes "cdylib") || bytes_eq name (codes "staticlib") then Some Lib
    else (if bytes_eq name (codes "proc-macro") then Some ProcMacro
    else (if bytes_eq name (codes "test") then Some Test
    else (if bytes_eq name (codes "bench") then Some Bench
    else (if bytes_eq name (codes "bin") then Some Bin
    else (if bytes_eq name (codes "example") then Some Example
    else (if bytes_eq name (codes "custom-build") then Some BuildScript
    else None))))))

-- the first of a target's kinds
abbrev pub first_kind : Text → Text → List Text → Result TargetKind Fault
first_kind owner target [] = Err (at_key key.Kind)
first_kind owner target (kind ∷ more) = ok_or (target_kind kind) (unknown_kind owner target kind)

-- the kind of a package's target
unfoldable pub kind_at : Text → Text → Data → Result TargetKind Fault
kind_at owner target d = texts_at key.Kind d >>= first_kind owner target

-- a target of a package
unfoldable pub target_of : Text → Data → Result Target Fault
target_of owner d = do
  name ← text_at key.Name d
  kind ← kind_at owner name d
  required_features ← texts_or_none key.RequiredFeatures d
  tested ← flag_at key.Test d
  path ← text_at key.SourcePath d
  edition ← text_at key.Edition d
  crate_types ← texts_at key.CrateTypes d
  doc ← flag_at key.Doc d
  doctest ← flag_at key.Doctest d
  Ok (record { kind = kind; name = name; required_features = required_features; tested = tested; info = record { path = path; edition = edition; crate_types = crate_types; doc = doc; doctest = doctest } })

-- each feature with what it switches on, ascending by name
abbrev pub each_feature : Members → Result (List FeatureEntry) Fault
each_feature no_members = Ok []
each_feature (member name d ms) =
    texts_of key.Features d >>= λ enables. each_feature ms >>= λ fs. Ok (record { name = name; enables = enables } ∷ fs)

-- the features of a package
abbrev pub features_of : Key → Data → Result (List FeatureEntry) Fault
features_of key d = members_of key d >>= each_feature

-- the name of a dependency that is optional, unless it was seen before
abbrev pub is_new_optional : List Text → Declared → Bool
is_new_optional seen d = d.line.optional && not (list_any (bytes_eq (name_of d)) seen)

-- the names of the optional dependencies, each once, but for those that were seen before
abbrev pub optional_names : List Text → List Declared → List Text
optional_names seen [] = []
optional_names seen (d ∷ ds) =
    if is_new_optional seen d then name_of d ∷ optional_names (seen ++ name_of d ∷ []) ds else optional_names seen ds

-- of a `DeclaringPackage`: a package of a record, and the dependencies that it declares
pub record Declaring : Type 0 where
  pub row : Package
  pub dependencies : List Declared

-- what a package holds: its features, the names of its optional dependencies, its targets and its dependencies
pub record Contents : Type 0 where
  pub features : List FeatureEntry
  pub optional : List Text
  pub targets : List Target
  pub dependencies : List Declared

-- the keys of what a package holds
unfoldable pub contents_of : Text → Data → Result Contents Fault
contents_of owner d = do
  features ← required features_of key.Features d
  target_items ← objects_at key.Targets d
  targets ← each (target_of owner) target_items
  dependency_items ← objects_at key.Dependencies d
  dependencies ← each dependency_of dependency_items
  Ok (record { features = features; optional = optional_names [] dependencies; targets = targets; dependencies = dependencies })

-- a package
unfoldable pub package_of : Data → Result Declaring Fault
package_of d = do
  id ← text_at key.Id d
  name ← text_at key.Name d
  version ← text_at key.Version d
  details ← details_of d
  contents ← contents_of name d
  Ok (record { row = record { id = id; name = name; version = version; features = contents.features; optional = contents.optional; targets = contents.targets; info = details }; dependencies = contents.dependencies })
