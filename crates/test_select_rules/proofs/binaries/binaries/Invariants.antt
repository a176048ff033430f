use Rattle.std.proofs.Common.{◌≡◌, map}
use Rattle.std.specs.List.{flat_map}
use Rattle.test_select_rules.specs.Binaries.{binaries_of}
use Rattle.test_select_rules.specs.BinaryView.{binary_view}
use Rattle.test_select_rules.proofs.binaries.binaries.Given as goal

abbrev pub invariant-loop-row : goal.invariant-loop-row
invariant-loop-row l = map binary_view l.all.items ≡ flat_map binaries_of (map (λ p. p.now) l.yielded)
