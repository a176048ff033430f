use Rattle.std.proofs.Common.{◌≡◌, take, true}
use Rattle.std.specs.List.{list_all}
use Rattle.cargo_record.specs.Members.{is_member_name}
use Rattle.cargo_record.proofs.members.unknown_name.Given as goal

abbrev pub invariant-loop-name : goal.invariant-loop-name
invariant-loop-name l = list_all (λ name. is_member_name l.metadata name.now) (take l.name-index l.names) ≡ true
