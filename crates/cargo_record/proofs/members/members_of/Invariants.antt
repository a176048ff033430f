use Rattle.std.proofs.Common.{◌≡◌, filter, map, string_bytes, take}
use Rattle.cargo_record.specs.Members.{is_asked, member_with}
use Rattle.cargo_record.proofs.members.members_of.Given as goal

abbrev pub invariant-loop-id : goal.invariant-loop-id
invariant-loop-id l =
    l.members.items ≡ map (member_with l.metadata) (filter (is_asked l.metadata l.wanted) (map string_bytes (take l.id-index l.ids)))
