-- Records that were written are read as they are, without metadata.
use Rattle.std.proofs.Common.{◌≡◌, refl, Ok}
use Rattle.workspace_record.specs.Records.{WorkspaceDetails, Workspace}
use Rattle.record_files.specs.declared.key.Key.TheVariants as key
use Rattle.record_files.specs.Links.{link_of}
use Rattle.record_files.specs.Packages.{package_of}
use Rattle.record_files.specs.Records.{record_of, record_file}
use Rattle.record_files.specs.Workspaces.{member_of, group_of, workspace_of}
use Rattle.record_writing.specs.Files.{plain_package, plain_workspace, without_metadata}
use Rattle.record_writing.specs.Rows.{group_data, link_data, member_data, package_data, record_data, workspace_data}
use Rattle.record_writing.proofs.Found.{each_text_of, text_or_none, objects_each, each_read, each_same}
use Rattle.record_writing.proofs.PackageFacts.{package_read}
use Rattle.record_writing.proofs.RowFacts.{group_read, link_read, member_read}

workspace_read : (w : WorkspaceDetails) → workspace_of (workspace_data w) ≡ Ok (plain_workspace w)
unfolding workspace_of
workspace_read w = rw (
  text_or_none key.BuildDirectory w.build_directory,
  each_text_of w.default_members,
  objects_each member_data (λ x. refl) w.members,
  each_same member_of member_data member_read w.members,
)

pub record_read : (w : Workspace) → record_file (record_data w) ≡ Ok (without_metadata w)
unfolding record_of
record_read w = rw (
  objects_each package_data (λ x. refl) w.packages,
  objects_each link_data (λ x. refl) w.links,
  objects_each group_data (λ x. refl) w.groups,
  text_or_none key.DefaultFilter w.default_filter,
  each_read package_of package_data plain_package package_read w.packages,
  each_same link_of link_data link_read w.links,
  workspace_read w.workspace,
  each_same group_of group_data group_read w.groups,
)
