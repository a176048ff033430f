use Rattle.std.proofs.Common.{◌↔◌, map, drop}
use Rattle.nextest_filter_evaluation.specs.NameTests.{SuitsOneOf, name_test}
use Rattle.nextest_filtering.proofs.matching.some_id_suits.Given as goal

abbrev pub invariant-loop-binary : goal.invariant-loop-binary
invariant-loop-binary l = SuitsOneOf (name_test l.matcher) (map (λ b. b.0) l.binaries) ↔ SuitsOneOf (name_test l.matcher) (map (λ b. b.0) (drop l.binary-index l.binaries))
