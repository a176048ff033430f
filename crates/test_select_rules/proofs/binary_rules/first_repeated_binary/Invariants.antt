use Rattle.std.proofs.Common.{◌≡◌, map, take}
use Rattle.test_select_rules.specs.BinaryView.{binary_view}
use Rattle.test_select_rules.proofs.binary_rules.first_repeated_binary.Given as goal

abbrev pub invariant-loop-binary : goal.invariant-loop-binary
invariant-loop-binary l = map (λ t. t.now) l.ids.items ≡ map (λ b. b.id) (map binary_view (take l.binary-index l.all))
