use Rattle.std.proofs.Common.{map, Contains}
use Rattle.test_select_rules.specs.BinaryView.{binary_view}
use Rattle.test_select_tests.specs.Kept.{AreThose}
use Rattle.test_select_tests.specs.Plans.{MayMatch}
use Rattle.test_select_tests.specs.QuestionFilters.{question_view}
use Rattle.test_select_tests.proofs.plan.binaries_that_may_match.Given as goal

abbrev pub invariant-loop-binary : goal.invariant-loop-binary
invariant-loop-binary l = AreThose (MayMatch l.asks (λ f. Contains l.on f) (question_view l.filters)) (map binary_view l.yielded) (map binary_view l.kept.items)
