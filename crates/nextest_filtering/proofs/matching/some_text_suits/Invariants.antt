use Rattle.std.proofs.Common.{◌↔◌, map, drop, string_bytes}
use Rattle.nextest_filter_evaluation.specs.NameTests.{SuitsOneOf, name_test}
use Rattle.nextest_filtering.proofs.matching.some_text_suits.Given as goal

abbrev pub invariant-loop-name : goal.invariant-loop-name
invariant-loop-name l = SuitsOneOf (name_test l.matcher) (map string_bytes l.names) ↔ SuitsOneOf (name_test l.matcher) (map string_bytes (drop l.name-index l.names))
