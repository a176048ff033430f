-- The dependencies that a manifest declares.
use Rattle.std.specs.Prelude.{bytes_eq, codes, if◌then◌else◌, Option, Some, None, ok_or, Result, Ok}
use Rattle.serde_json.specs.Data.{Data}
use Rattle.workspace_record.specs.Records.{Text, Line}
use Rattle.workspace_record.specs.declared.kinds.LineKind.{LineKind}
use Rattle.workspace_record.specs.declared.kinds.LineKind.TheVariants.{Normal, Build, Dev}
use Rattle.cargo_metadata.specs.Faults.{Fault, at_key}
use Rattle.cargo_metadata.specs.declared.key.Key.{Key}
use Rattle.cargo_metadata.specs.declared.key.Key.TheVariants as key
use Rattle.cargo_metadata.specs.Outcomes.{◌>>=◌}
use Rattle.cargo_metadata.specs.Values.{otherwise, text_of, text_at, optional_text_at, texts_at, flag_at}

-- of a `Dependency`
pub record Declared : Type 0 where
  pub package_name : Text
  pub rename : Option Text
  pub source : Option Text
  pub requirement : Text
  pub registry : Option Text
  pub path : Option Text
  pub line : Line

-- what the manifest calls a package that it renames or not
abbrev pub called : Option Text → Text → Text
called (Some name) package_name = name
called None package_name = package_name

-- what the manifest calls a dependency
abbrev pub name_of : Declared → Text
name_of d = called d.rename d.package_name

-- the sections of a manifest, by name
abbrev pub line_kind : Text → Option LineKind
line_kind name =
    if bytes_eq name (codes "normal") then Some Normal
    else (if bytes_eq name (codes "build") then Some Build
    else (if bytes_eq name (codes "dev") then Some Dev
    else None))

-- a text that names a section
abbrev pub line_kind_of : Key → Data → Result LineKind Fault
line_kind_of key d = text_of key d >>= λ name. ok_or (line_kind name) (at_key key)

-- the section of a dependency; absent is the normal one
abbrev pub line_kind_at : Data → Result LineKind Fault
line_kind_at = otherwise Normal line_kind_of key.Kind

-- the line of a record that the declaration is
unfoldable pub line_of : Data → Result Line Fault
line_of d = do
  kind ← line_kind_at d
  optional ← flag_at key.Optional d
  default_features ← flag_at key.UsesDefaultFeatures d
  features ← texts_at key.Features d
  spec ← optional_text_at key.Target d
  Ok (record { kind = kind; optional = optional; default_features = default_features; features = features; spec = spec })

-- a dependency
unfoldable pub dependency_of : Data → Result Declared Fault
dependency_of d = do
  package_name ← text_at key.Name d
  rename ← optional_text_at key.Rename d
  source ← optional_text_at key.Source d
  requirement ← text_at key.Requirement d
  registry ← optional_text_at key.Registry d
  path ← optional_text_at key.Path d
  line ← line_of d
  Ok (record { package_name = package_name; rename = rename; source = source; requirement = requirement; registry = registry; path = path; line = line })
