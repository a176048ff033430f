use Rattle.std.proofs.Common.{◌≡◌, map}
use Rattle.serde_json.specs.Data.{no_members}
use Rattle.serde_json.specs.View.{members_view}
use Rattle.workspace_record.specs.Tables.{entry_of}
use Rattle.record_writing.specs.Maps.{answer_member}
use Rattle.record_writing.specs.Members.{put_all}
use Rattle.record_writing.proofs.table.answers_object.Given as goal

abbrev pub invariant-loop-spec : goal.invariant-loop-spec
invariant-loop-spec l =
    (goal.iterator-loop-spec).can_next l.spec-iterator ×
    (goal.iterator-loop-spec).is_finite l.spec-iterator ×
    (put_all (map answer_member (map entry_of l.spec-iterator)) (members_view l.object.entries) ≡ put_all (map answer_member (map entry_of l.answers.entries)) no_members)
