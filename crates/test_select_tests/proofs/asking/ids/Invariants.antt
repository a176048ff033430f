use Rattle.std.proofs.Common.{◌≡◌, map, take}
use Rattle.list_facts.specs.Texts.{texts}
use Rattle.test_select_rules.specs.BinaryView.{binary_view}
use Rattle.test_select_tests.specs.Choosing.{ids_of}
use Rattle.test_select_tests.proofs.asking.ids.Given as goal

abbrev pub invariant-loop-binary : goal.invariant-loop-binary
invariant-loop-binary l = texts l.ids.items ≡ ids_of (map binary_view (take l.binary-index l.asked))
