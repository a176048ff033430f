-- What Cargo resolved the dependencies of packages to.
use Rattle.std.specs.Prelude.{List, Option, Result, Ok}
use Rattle.serde_json.specs.Data.{Data}
use Rattle.workspace_record.specs.Records.{Text}
use Rattle.workspace_record.specs.declared.kinds.LineKind.{LineKind}
use Rattle.cargo_metadata.specs.Faults.{Fault}
use Rattle.cargo_metadata.specs.declared.key.Key.TheVariants as key
use Rattle.cargo_metadata.specs.Outcomes.{◌>>=◌}
use Rattle.cargo_metadata.specs.Dependencies.{line_kind_at}
use Rattle.cargo_metadata.specs.Values.{each, text_at, optional_text_at, objects_at}

-- of a `ResolvedKind`
pub record Kind : Type 0 where
  pub kind : LineKind
  pub spec : Option Text

-- of a `ResolvedDependency`
pub record Entry : Type 0 where
  pub name : Text
  pub package_id : Text
  pub kinds : List Kind

-- of a `ResolvedPackage`
pub record Node : Type 0 where
  pub id : Text
  pub dependencies : List Entry

-- a section and a platform
unfoldable pub kind_of : Data → Result Kind Fault
kind_of d = do
  kind ← line_kind_at d
  spec ← optional_text_at key.Target d
  Ok (record { kind = kind; spec = spec })

-- a package that a dependency was resolved to
unfoldable pub entry_of : Data → Result Entry Fault
entry_of d = do
  name ← text_at key.Name d
  package_id ← text_at key.Pkg d
  kind_items ← objects_at key.DepKinds d
  kinds ← each kind_of kind_items
  Ok (record { name = name; package_id = package_id; kinds = kinds })

-- a package with what its dependencies were resolved to
unfoldable pub node_of : Data → Result Node Fault
node_of d = do
  id ← text_at key.Id d
  entry_items ← objects_at key.Deps d
  dependencies ← each entry_of entry_items
  Ok (record { id = id; dependencies = dependencies })
