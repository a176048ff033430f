use Rattle.std.proofs.Common.{◌≡◌, None, take}
use Rattle.guppy_package_rules.specs.Places.{first_repeat}
use Rattle.guppy_package_rules.proofs.PlaceFacts.{HoldsSeen}
use Rattle.guppy_package_rules.proofs.distinct.first_repeat.Given as goal

-- no key was seen twice, and the set holds those seen
abbrev pub invariant-loop-place : goal.invariant-loop-place
invariant-loop-place g l =
    (first_repeat g.K.PartialEq.eq (take l.place l.keys) ≡ None) × HoldsSeen g.met.K.Eq.laws l.seen.keys (take l.place l.keys)
