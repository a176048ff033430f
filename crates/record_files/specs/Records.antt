-- The file of a workspace's record.
use Rattle.std.specs.Prelude.{Result, Ok}
use Rattle.serde_json.specs.Data.{Data}
use Rattle.workspace_record.specs.Records.{Workspace}
use Rattle.record_files.specs.Faults.{Fault}
use Rattle.record_files.specs.declared.key.Key.TheVariants as key
use Rattle.record_files.specs.Outcomes.{◌>>=◌}
use Rattle.record_files.specs.Values.{each, optional_text_at, object_of, object_at, objects_at, objects_or_none}
use Rattle.record_files.specs.Packages.{package_of}
use Rattle.record_files.specs.Links.{link_of}
use Rattle.record_files.specs.Workspaces.{workspace_of, group_of}

-- a record: its own keys, then each package, each link, the workspace and each group
unfoldable pub record_of : Data → Result Workspace Fault
record_of d = do
  package_items ← objects_at key.Packages d
  link_items ← objects_or_none key.Links d
  workspace_item ← object_at key.Workspace d
  group_items ← objects_or_none key.Groups d
  default_filter ← optional_text_at key.DefaultFilter d
  packages ← each package_of package_items
  links ← each link_of link_items
  workspace ← workspace_of workspace_item
  groups ← each group_of group_items
  Ok (record { packages = packages; links = links; workspace = workspace; groups = groups; default_filter = default_filter })

-- a file that is a record (from `cargo metadata`'s names)
abbrev pub record_file : Data → Result Workspace Fault
record_file d = object_of key.File d >>= record_of
