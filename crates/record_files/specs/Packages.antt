-- The objects of a package, as `cargo metadata` names their parts.
use Rattle.std.specs.Prelude.{List, [], true, false, bytes_eq, codes, if◌then◌else◌, Option, Some, None, ok_or, Result, Ok}
use Rattle.serde_json.specs.Data.{Data}
use Rattle.workspace_record.specs.Records.{Text, FeatureEntry, Target, Package}
use Rattle.workspace_record.specs.declared.kinds.TargetKind.{TargetKind}
use Rattle.workspace_record.specs.declared.kinds.TargetKind.TheVariants.{Lib, ProcMacro, Test, Bench, Bin, Example, BuildScript}
use Rattle.record_files.specs.Faults.{Fault, at_key}
use Rattle.record_files.specs.declared.key.Key.{Key}
use Rattle.record_files.specs.declared.key.Key.TheVariants as key
use Rattle.record_files.specs.Outcomes.{◌>>=◌}
use Rattle.record_files.specs.Editions.{default_edition}
use Rattle.record_files.specs.Details.{details_of}
use Rattle.record_files.specs.Values.{each, required, text_of, text_at, text_or, texts_at, flag_or, objects_or_none}

-- a feature, and what it switches on
unfoldable pub feature_of : Data → Result FeatureEntry Fault
feature_of d = do
  name ← text_at key.Name d
  enables ← texts_at key.Enables d
  Ok (record { name = name; enables = enables })

-- the kinds of targets, by name
abbrev pub target_kind : Text → Option TargetKind
target_kind name =
    if bytes_eq name (codes "lib") then Some Lib
    else (if bytes_eq name (codes "proc-macro") then Some ProcMacro
    else (if bytes_eq name (codes "test") then Some Test
    else (if bytes_eq name (codes "bench") then Some Bench
    else (if bytes_eq name (codes "bin") then Some Bin
    else (if bytes_eq name (codes "example") then Some Example
    else (if bytes_eq name (codes "build-script") then Some BuildScript
    else None))))))

-- a text that names a kind of target
abbrev pub target_kind_of : Key → Data → Result TargetKind Fault
target_kind_of key d = text_of key d >>= λ name. ok_or (target_kind name) (at_key key)

-- a target: what Cargo builds of a package
unfoldable pub target_of : Data → Result Target Fault
target_of d = do
  kind ← required target_kind_of key.Kind d
  name ← text_at key.Name d
  required_features ← texts_at key.RequiredFeatures d
  tested ← flag_or true key.Tested d
  path ← text_or [] key.Path d
  edition ← text_or default_edition key.Edition d
  crate_types ← texts_at key.CrateTypes d
  doc ← flag_or false key.Doc d
  doctest ← flag_or false key.Doctest d
  Ok (record { kind = kind; name = name; required_features = required_features; tested = tested; info = record { path = path; edition = edition; crate_types = crate_types; doc = doc; doctest = doctest } })

-- what a package holds: the lists of features and targets, then each feature, and then each target
unfoldable pub contents_of : Data → Result (List FeatureEntry × List Target) Fault
contents_of d = do
  feature_items ← objects_or_none key.Features d
  target_items ← objects_or_none key.Targets d
  features ← each feature_of feature_items
  targets ← each target_of target_items
  Ok (features, targets)

-- a package: its own keys, and then what it holds
unfoldable pub package_of : Data → Result Package Fault
package_of d = do
  id ← text_at key.Id d
  name ← text_at key.Name d
  version ← text_at key.Version d
  optional ← texts_at key.Optional d
  details ← details_of d
  contents ← contents_of d
  Ok (record { id = id; name = name; version = version; features = contents.0; optional = optional; targets = contents.1; info = details })
