use Rattle.std.proofs.Common.{◌≡◌, map, string_bytes, take}
use Rattle.test_select_rules.specs.BinaryView.{binary_view}
use Rattle.cargo_files.proofs.listings.ids_of.Given as goal

abbrev pub invariant-loop-binary : goal.invariant-loop-binary
invariant-loop-binary l = map string_bytes l.ids.items ≡ map (λ b. b.id) (map binary_view (take l.binary-index l.binary-items))
