-- What `cargo metadata` says of a workspace.
use Rattle.std.specs.Prelude.{ℕ, List, Option, codes, option_and_then, Result, Ok}
use Rattle.serde_json.specs.Data.{Data}
use Rattle.serde_json.specs.Find.{get, as_number, as_u64}
use Rattle.workspace_record.specs.Records.{Text}
use Rattle.cargo_metadata.specs.Faults.{Fault}
use Rattle.cargo_metadata.specs.declared.key.Key.{Key}
use Rattle.cargo_metadata.specs.declared.key.Key.TheVariants as key
use Rattle.cargo_metadata.specs.Outcomes.{◌>>=◌}
use Rattle.cargo_metadata.specs.Packages.{Declaring, package_of}
use Rattle.cargo_metadata.specs.Called.{of_package}
use Rattle.cargo_metadata.specs.Resolved.{Node, node_of}
use Rattle.cargo_metadata.specs.Values.{each, optional, object_of, text_at, optional_text_at, texts_at, optional_texts_at, objects_at}

-- of a `WorkspaceNames`
pub record Names : Type 0 where
  pub root : Text
  pub target_directory : Text
  pub build_directory : Option Text
  pub members : List Text
  pub default_members : Option (List Text)

-- of a `Metadata`
pub record Metadata : Type 0 where
  pub format : Option ℕ
  pub packages : List Declaring
  pub nodes : Option (List Node)
  pub workspace : Names

-- the version of the format, if it is a whole number
abbrev pub format_of : Data → Option ℕ
format_of d = option_and_then as_u64 (option_and_then as_number (get (codes "version") d))

-- the folders and members of the workspace
unfoldable pub workspace_of : Data → Result Names Fault
workspace_of d = do
  root ← text_at key.WorkspaceRoot d
  target_directory ← text_at key.TargetDirectory d
  build_directory ← optional_text_at key.BuildDirectory d
  members ← texts_at key.WorkspaceMembers d
  default_members ← optional_texts_at key.WorkspaceDefaultMembers d
  Ok (record { root = root; target_directory = target_directory; build_directory = build_directory; members = members; default_members = default_members })

-- the nodes of a resolve, whose faults name their packages
abbrev pub nodes_of : Key → Data → Result (List Node) Fault
nodes_of at d = objects_at key.Nodes d >>= each (of_package node_of)

-- the nodes of the resolve, if there is one
abbrev pub nodes_at : Data → Result (Option (List Node)) Fault
nodes_at = optional nodes_of key.Resolve

-- metadata: the names of the workspace, then what was resolved, then each package, whose faults name it
unfoldable pub metadata_of : Data → Result Metadata Fault
metadata_of d = do
  workspace ← workspace_of d
  nodes ← nodes_at d
  package_items ← objects_at key.Packages d
  packages ← each (of_package package_of) package_items
  Ok (record { format = format_of d; packages = packages; nodes = nodes; workspace = workspace })

-- a file that is metadata (from Cargo's reference, "External tools")
abbrev pub metadata_file : Data → Result Metadata Fault
metadata_file d = object_of key.File d >>= metadata_of
