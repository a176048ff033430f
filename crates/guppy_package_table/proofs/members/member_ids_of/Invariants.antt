use Rattle.std.proofs.Common.{◌≡◌, map, take}
use Rattle.guppy_package_table.proofs.members.member_ids_of.Given as goal

abbrev pub invariant-loop-member : goal.invariant-loop-member
invariant-loop-member l = l.ids.keys ≡ map (λ m. m.package_id) (take l.member-index l.members)
