use Rattle.std.proofs.Common.{◌≡◌, ◌++◌, map, refl, string_bytes, subst}
use Rattle.list_facts.specs.Texts.{pair_of, texts}
use Rattle.test_select_rules.specs.BinaryView.{binary_view}
use Rattle.workspace_record.specs.Records.{Text}
use Rattle.nextest_filter_evaluation.specs.Questions.{AnswerAlike, lent_of, ready_view}
use Rattle.test_select_rules.specs.Asked.{binary_asked}
use Rattle.test_select_tests.specs.Passing.{ArePassing}
use Rattle.test_select_tests.proofs.LendingFacts.{ready_for}
use Rattle.test_select_tests.proofs.ChoosingFacts.{tests_added}
use Rattle.test_select_tests.proofs.KeptFacts.{on_ok_so}
use Rattle.test_select_tests.proofs.asking.push_chosen.Goals as goal

pub returns-clause-added : goal.returns-clause-added
returns-clause-added c q same =
    let f = lent_of c.args.filters.now in
    let a = binary_asked (binary_view c.args.binary.now) in
    let view = ready_view c.in_ok-ready.ready in
    let old = map pair_of c.args.chosen.now.items in
    let new = map pair_of c.push_tests.new.chosen.items in
    let alike : AnswerAlike f a view = subst (λ b. AnswerAlike f b view) c.query.ensures.asked c.in_ok-ready.ensures.ready in
    let are : ArePassing q a (texts c.args.names.items) (texts c.in_ok-passing.passing.items) = c.in_ok-passing.ensures.passing q a (ready_for _ f q a view c.requires.patterns same alike) in
    on_ok_so
    c.push_tests.result
    (λ h. tests_added q (binary_view c.args.binary.now) a c.args.names.items c.in_ok-passing.passing.items old new refl are (subst (λ (id : Text). new ≡ old ++ map (λ t. (id, string_bytes t)) c.in_ok-passing.passing.items) c.as_str.ensures.text h))
    c.push_tests.ensures
