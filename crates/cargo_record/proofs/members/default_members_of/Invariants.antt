use Rattle.std.proofs.Common.{◌≡◌, filter, map, string_bytes, take}
use Rattle.cargo_record.specs.Members.{ids, is_among}
use Rattle.cargo_record.proofs.members.default_members_of.Given as goal

abbrev pub invariant-loop-id : goal.invariant-loop-id
invariant-loop-id l =
    map string_bytes l.found.items ≡ filter (is_among (ids l.members)) (map string_bytes (take l.id-index l.id-items))
