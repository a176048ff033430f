use Rattle.std.proofs.Common.{◌≡◌, None, take}
use Rattle.std.specs.Cmp.{eq_by_cmp_equiv}
use Rattle.std.specs.Ordering.{eq_by_cmp}
use Rattle.guppy_package_rules.specs.Places.{first_repeat}
use Rattle.guppy_package_rules.proofs.PlaceFacts.{HoldsSeen}
use Rattle.guppy_package_rules.proofs.distinct.first_repeat_in_order.Given as goal

-- no key was seen twice, and the set holds those seen
abbrev pub invariant-loop-place : goal.invariant-loop-place
invariant-loop-place g l =
    (first_repeat (eq_by_cmp g.K.Ord.cmp) (take l.place l.keys) ≡ None) × HoldsSeen (eq_by_cmp_equiv g.met.K.Ord.total) l.seen.keys (take l.place l.keys)
