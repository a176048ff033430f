use Rattle.std.proofs.Common.{◌≡◌, map, take}
use Rattle.test_select_rules.specs.BinaryView.{binary_view}
use Rattle.test_select_rules.specs.Told.{told_by, told_of}
use Rattle.test_select_tests.proofs.asking.infos.Given as goal

abbrev pub invariant-loop-binary : goal.invariant-loop-binary
invariant-loop-binary l = map told_by l.infos.items ≡ map told_of (map binary_view (take l.binary-index l.asked))
