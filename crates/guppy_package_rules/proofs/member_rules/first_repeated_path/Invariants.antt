use Rattle.std.proofs.Common.{◌≡◌, map, take}
use Rattle.guppy_package_rules.proofs.member_rules.first_repeated_path.Given as goal

abbrev pub invariant-loop-member : goal.invariant-loop-member
invariant-loop-member l = map (λ p. p.text.now) l.paths.items ≡ map (λ m. m.path) (take l.member-index l.members)
