use Rattle.std.proofs.Common.{◌≡◌, drop}
use Rattle.serde_json.specs.View.{members_view}
use Rattle.record_writing.specs.Members.{members_data, put_all}
use Rattle.record_writing.proofs.object.with_members.Given as goal

abbrev pub invariant-loop-key : goal.invariant-loop-key
invariant-loop-key l = put_all (members_data (drop l.key-index l.members)) (members_view l.object.entries) ≡ put_all (members_data l.members) (members_view l.initial.object.entries)
