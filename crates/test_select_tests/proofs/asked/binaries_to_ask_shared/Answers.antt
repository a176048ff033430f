use Rattle.std.proofs.Common.{rules, ◌≡◌, map}
use Rattle.test_select_rules.specs.BinaryView.{binary_view}
use Rattle.test_select_tests.specs.QuestionFilters.{question_view}
use Rattle.test_select_tests.proofs.SelectingFacts.{lists_ids}
use Rattle.test_select_tests.proofs.asked.binaries_to_ask_shared.Goals as goal

pub returns : goal.returns
returns c =
    let lent : c.deref.result.now ≡ c.in_ok-plan.plan.asked.items = search rules in
    record { asked = lists_ids _ (question_view c.in_ok-plan.plan.filters) (map binary_view c.in_ok-plan.plan.asked.items) c.in_ok-plan.ensures _ (rw lent at c.in_ok-asked.ensures) }
