use Rattle.std.proofs.Common.{◌≡◌, map, take}
use Rattle.guppy_package_rules.specs.Rules.{member_name}
use Rattle.guppy_package_rules.proofs.member_rules.first_repeated_name.Given as goal

abbrev pub invariant-loop-member : goal.invariant-loop-member
invariant-loop-member l = map (λ t. t.now) l.names.items ≡ map (member_name l.packages) (take l.member-index l.members)
