-- The object of a workspace, and the groups of its test runner.
use Rattle.std.specs.Prelude.{[], codes, Result, Ok}
use Rattle.serde_json.specs.Data.{Data}
use Rattle.workspace_record.specs.Records.{Text, Member, WorkspaceDetails, Group}
use Rattle.record_files.specs.Faults.{Fault}
use Rattle.record_files.specs.declared.key.Key.TheVariants as key
use Rattle.record_files.specs.Outcomes.{◌>>=◌}
use Rattle.record_files.specs.Values.{each, text_at, optional_text_at, text_or, texts_at, objects_at, optional_json_at}

-- a member: the id of a package, and its folder
unfoldable pub member_of : Data → Result Member Fault
member_of d = do
  package_id ← text_at key.Package d
  path ← text_at key.Path d
  Ok (record { package_id = package_id; path = path })

-- the folder that a workspace builds in where it names none
abbrev pub default_target_directory : Text
default_target_directory = codes "target"

-- a workspace: its own keys, and then its members
unfoldable pub workspace_of : Data → Result WorkspaceDetails Fault
workspace_of d = do
  root ← text_or [] key.Root d
  target_directory ← text_or default_target_directory key.TargetDirectory d
  build_directory ← optional_text_at key.BuildDirectory d
  default_members ← texts_at key.DefaultMembers d
  metadata ← optional_json_at key.Metadata d
  member_items ← objects_at key.Members d
  members ← each member_of member_items
  Ok (record { root = root; target_directory = target_directory; build_directory = build_directory; members = members; default_members = default_members; metadata = metadata })

-- a group of tests
unfoldable pub group_of : Data → Result Group Fault
group_of d = do
  name ← text_at key.Name d
  filter ← text_at key.Filter d
  Ok (record { name = name; filter = filter })
