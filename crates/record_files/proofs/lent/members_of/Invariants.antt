use Rattle.std.proofs.Common.{◌≡◌, drop}
use Rattle.json.specs.Value.{members_view}
use Rattle.serde_json.specs.Data.{no_members}
use Rattle.record_files.specs.Trees.{members_data, lent_members}
use Rattle.record_files.proofs.lent.members_of.Given as goal

abbrev pub invariant-loop-member : goal.invariant-loop-member
invariant-loop-member l =
    members_data (members_view (drop l.member-index l.member-items)) (lent_members l.found.entries) ≡ members_data (members_view l.member-items) no_members
