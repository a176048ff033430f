use Rattle.std.proofs.Common.{◌≡◌, filter, map}
use Rattle.guppy_package_rules.specs.Paths.{is_part}
use Rattle.test_select_changes.specs.PartViews.{lent_parts}
use Rattle.test_select_changes.proofs.path_parts.parts_of.Given as goal

abbrev pub invariant-loop-part : goal.invariant-loop-part
invariant-loop-part l = lent_parts l.parts.items ≡ filter is_part (map (λ part. part.now) l.yielded)
