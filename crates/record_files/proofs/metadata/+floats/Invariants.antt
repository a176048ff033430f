use Rattle.std.proofs.Common.{◌≡◌, drop}
use Rattle.serde_json.specs.View.{items_view, members_view}
use Rattle.serde_json.specs.Written.{items_have_float, members_have_float}
use Rattle.record_files.proofs.metadata.+floats.Given as goal

abbrev pub invariant-items_have_float-loop-value : goal.invariant-items_have_float-loop-value
invariant-items_have_float-loop-value l =
    items_have_float (items_view (drop l.value-index l.values.items)) ≡ items_have_float (items_view l.values.items)

abbrev pub invariant-members_have_float-loop-member : goal.invariant-members_have_float-loop-member
invariant-members_have_float-loop-member l =
    (goal.iterator-members_have_float-loop-member).can_next l.member-iterator ×
    (goal.iterator-members_have_float-loop-member).is_finite l.member-iterator ×
    (members_have_float (members_view l.member-iterator) ≡ members_have_float (members_view l.members.entries))
