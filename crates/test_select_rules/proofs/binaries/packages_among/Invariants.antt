use Rattle.std.proofs.Common.{◌≡◌, map, filter, take}
use Rattle.guppy_package_rules.specs.Found.{finds}
use Rattle.test_select_rules.proofs.binaries.packages_among.Given as goal

abbrev pub invariant-loop-row : goal.invariant-loop-row
invariant-loop-row l = map (λ p. p.now) l.among.items ≡ filter (λ p. finds l.ids p.id) (take l.row-index l.packages)
