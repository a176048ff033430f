use Rattle.std.proofs.Common.{◌≡◌, drop, take, map}
use Rattle.json.specs.Value.{members_view as tree_members}
use Rattle.serde_json.specs.Data.{no_members}
use Rattle.serde_json.specs.View.{view, members_view}
use Rattle.record_files.specs.Trees.{seen, members_data}
use Rattle.record_files.proofs.metadata.+owned.Given as goal

abbrev pub invariant-owned_items-loop-value : goal.invariant-owned_items-loop-value
invariant-owned_items-loop-value l = map view l.found.items ≡ map seen (take l.value-index l.values.items)

abbrev pub invariant-owned_members-loop-member : goal.invariant-owned_members-loop-member
invariant-owned_members-loop-member l =
    members_data (tree_members (drop l.member-index l.members.items)) (members_view l.found.entries) ≡ members_data (tree_members l.members.items) no_members
