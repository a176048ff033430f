-- The file of a choice of features.
use Rattle.std.specs.Prelude.{[], ◌∷◌, take, drop, bytes_eq, codes, if◌then◌else◌, Option, Some, None, ok_or, Result, Ok}
use Rattle.serde_json.specs.Data.{Data}
use Rattle.workspace_record.specs.Records.{Text}
use Rattle.workspace_record.specs.Features.{LabelValue, Base, Named, Dep, FeatureValue}
use Rattle.workspace_record.specs.Choices.{Choice}
use Rattle.workspace_record.specs.declared.kinds.Standard.{Standard}
use Rattle.workspace_record.specs.declared.kinds.Standard.TheVariants as standard
use Rattle.record_files.specs.Faults.{Fault, at_key}
use Rattle.record_files.specs.declared.key.Key.{Key}
use Rattle.record_files.specs.declared.key.Key.TheVariants as key
use Rattle.record_files.specs.Outcomes.{◌>>=◌}
use Rattle.record_files.specs.Values.{each, otherwise, object_of, objects_or_none, text_of, text_at}

-- the standard choices, by name
abbrev pub standard_named : Text → Option Standard
standard_named name =
    if bytes_eq name (codes "none") then Some standard.None
    else (if bytes_eq name (codes "default") then Some standard.Default
    else (if bytes_eq name (codes "all") then Some standard.All
    else None))

-- a text that names a standard choice
abbrev pub standard_of : Key → Data → Result Standard Fault
standard_of key d = text_of key d >>= λ name. ok_or (standard_named name) (at_key key)

-- a text that begins with `dep:` names an optional dependency; any other, a feature
abbrev pub named_or_dep : Text → LabelValue
named_or_dep text = if bytes_eq (take 4 text) (codes "dep:") then Dep (drop 4 text) else Named text

-- a feature as Cargo's command line writes it; the empty text is the package itself
abbrev pub label_of : Text → LabelValue
label_of [] = Base
label_of (c ∷ text) = named_or_dep (c ∷ text)

-- a feature of a package
unfoldable pub extra_of : Data → Result FeatureValue Fault
extra_of d = do
  package_id ← text_at key.Package d
  feature ← text_at key.Feature d
  Ok (record { package_id = package_id; label = label_of feature })

-- a choice: its own keys, and then the features that it adds
unfoldable pub choice_of : Data → Result Choice Fault
choice_of d = do
  base ← otherwise standard.Default standard_of key.Standard d
  extra_items ← objects_or_none key.Extras d
  extras ← each extra_of extra_items
  Ok (record { standard = base; extras = extras })

-- a file that is a choice (from `cargo metadata`'s names)
abbrev pub choice_file : Data → Result Choice Fault
choice_file d = object_of key.File d >>= choice_of
