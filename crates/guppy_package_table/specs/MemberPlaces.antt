-- The members of the workspace, by the places of their packages.
use Rattle.std.specs.Prelude.{◌≡◌, List, map}
use Rattle.workspace_record.specs.Records.{Text, WorkspaceDetails}
use Rattle.guppy_package_table.specs.Tables.{place_among}
use Rattle.guppy_package_table.specs.declared.members.Members.{Members}

-- the members of the workspace, among packages with these ids
pub record AreMembers (package_ids : List Text) (workspace : WorkspaceDetails) (members : Members) : Type 0 where
  pub ids : members.ids.keys ≡ map (λ m. m.package_id) workspace.members
  pub numbers : members.numbers.items ≡ map (place_among (map (λ m. m.package_id) workspace.members)) package_ids
  pub places : members.places.items ≡ map (λ m. place_among package_ids m.package_id) workspace.members
  pub defaults : members.defaults.items ≡ map (place_among package_ids) workspace.default_members
