use Rattle.std.proofs.Common.{sym, subst, ℕ, ◌<◌, All, length}
use Rattle.guppy_package_table.specs.Tables.{ids_of}
use Rattle.guppy_package_table.specs.MemberPlaces.{AreMembers}
use Rattle.guppy_package_table.proofs.Places.{defaults_within, members_within}
use Rattle.guppy_package_table.proofs.indices.package_indices.Goals as goal

pub returns-in-Ok : goal.returns-in-Ok
returns-in-Ok c =
    let packages = c.args.packages.now in
    let workspace = c.args.workspace.now in
    let members : AreMembers (ids_of packages) workspace c.in-Ok.members = subst (λ ids. AreMembers ids workspace c.in-Ok.members) c.in_ok-ids.ensures c.in-Ok.ensures in
    let within : ℕ → Type 0 = λ v. v < length packages in
    record {
      ids = c.in_ok-ids.ensures;
      ids_apart = c.requires.kept.ids_apart;
      versions = c.requires.read;
      members = members;
      member_places = subst (All within) (sym members.places) (members_within packages workspace.members c.requires.kept.members_known);
      default_places = subst (All within) (sym members.defaults) (defaults_within packages workspace c.requires.kept.members_known c.requires.kept.defaults_are_members);
    }
