use Rattle.std.proofs.Common.{◌≡◌, drop}
use Rattle.json.specs.Value.{items_view, members_view}
use Rattle.record_files.specs.Trees.{items_have_numbers, members_have_numbers}
use Rattle.record_files.proofs.number.+numbers.Given as goal

abbrev pub invariant-items_have_numbers-loop-value : goal.invariant-items_have_numbers-loop-value
invariant-items_have_numbers-loop-value l =
    items_have_numbers (items_view (drop l.value-index l.values.items)) ≡ items_have_numbers (items_view l.values.items)

abbrev pub invariant-members_have_numbers-loop-member : goal.invariant-members_have_numbers-loop-member
invariant-members_have_numbers-loop-member l =
    members_have_numbers (members_view (drop l.member-index l.members.items)) ≡ members_have_numbers (members_view l.members.items)
