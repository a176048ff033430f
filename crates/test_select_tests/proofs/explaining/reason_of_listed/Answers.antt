use Rattle.std.proofs.Common.{Option, ℕ, subst}
use Rattle.nextest_binaries.specs.Queries.{test_of}
use Rattle.test_select_tests.specs.FirstTexts.{FindsFirst}
use Rattle.test_select_tests.specs.QuestionFilters.{TextPasses, question_view}
use Rattle.test_select_tests.proofs.ReasonFacts.{chosen_so}
use Rattle.test_select_tests.proofs.explaining.reason_of_listed.Goals as goal

pub returns-in-Some : goal.returns-in-Some
returns-in-Some c =
    let q = question_view c.args.filters.now in
    let t = test_of c.args.test.now in
    rw c.chosen_by.ensures (chosen_so q t c.args.are_given c.in-Some.place (c.in_ok-default_holds.ensures.holds.0 c.if-not-branch.false) (subst (λ (place : Option ℕ). FindsFirst (TextPasses q t) q.texts place) c.in-Some.is c.in_ok-first.ensures.first))
