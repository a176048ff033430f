-- The objects of a link between two packages: a dependency, with its lines in the manifest.
use Rattle.std.specs.Prelude.{true, false, bytes_eq, codes, if◌then◌else◌, Option, Some, None, ok_or, Result, Ok}
use Rattle.serde_json.specs.Data.{Data}
use Rattle.workspace_record.specs.Records.{Text, Line, Link}
use Rattle.workspace_record.specs.declared.kinds.LineKind.{LineKind}
use Rattle.workspace_record.specs.declared.kinds.LineKind.TheVariants.{Normal, Build, Dev}
use Rattle.record_files.specs.Faults.{Fault, at_key}
use Rattle.record_files.specs.declared.key.Key.{Key}
use Rattle.record_files.specs.declared.key.Key.TheVariants as key
use Rattle.record_files.specs.Outcomes.{◌>>=◌}
use Rattle.record_files.specs.Values.{each, otherwise, text_of, text_at, optional_text_at, text_or, texts_at, flag_or, objects_at}

-- the sections of a manifest, by name
abbrev pub line_kind : Text → Option LineKind
line_kind name =
    if bytes_eq name (codes "normal") then Some Normal
    else (if bytes_eq name (codes "build") then Some Build
    else (if bytes_eq name (codes "dev") then Some Dev
    else None))

-- a text that names a section
abbrev pub line_kind_of : Key → Data → Result LineKind Fault
line_kind_of key d = text_of key d >>= λ name. ok_or (line_kind name) (at_key key)

-- a line: one declaration of the dependency
unfoldable pub line_of : Data → Result Line Fault
line_of d = do
  kind ← otherwise Normal line_kind_of key.Kind d
  optional ← flag_or false key.Optional d
  default_features ← flag_or true key.DefaultFeatures d
  features ← texts_at key.Features d
  spec ← optional_text_at key.Spec d
  Ok (record { kind = kind; optional = optional; default_features = default_features; features = features; spec = spec })

-- the requirement of a link that gives none: any version
abbrev pub any_version : Text
any_version = codes "*"

-- a link: its own keys, and then its lines
unfoldable pub link_of : Data → Result Link Fault
link_of d = do
  from ← text_at key.From d
  to ← text_at key.To d
  name ← text_at key.Name d
  requirement ← text_or any_version key.Requirement d
  registry ← optional_text_at key.Registry d
  path ← optional_text_at key.Path d
  line_items ← objects_at key.Lines d
  lines ← each line_of line_items
  Ok (record { from = from; to = to; name = name; requirement = requirement; lines = lines; registry = registry; path = path })
