use Rattle.std.proofs.Common.{◌∙◌, ◌∷◌, [], ap, subst, sym, true≢false, string_bytes}
use Rattle.std.proofs.lemmas.List.{map-append}
use Rattle.list_facts.specs.Texts.{texts}
use Rattle.test_select_tests.specs.QuestionFilters.{Pass}
use Rattle.test_select_tests.proofs.ChoosingFacts.{not_passing, passing_added}
use Rattle.test_select_tests.proofs.asking.push_if_passing.Goals as goal

pub returns-in_ok-push-clause-added : goal.returns-in_ok-push-clause-added
returns-in_ok-push-clause-added c q b is =
    let grown = ap texts c.in_ok-push.ensures.items ∙ map-append string_bytes c.args.passing.now.items (c.args.name ∷ []) in
    let holds = subst (λ n. Pass q (record { binary = b; name = n })) c.as_str.ensures.value ((is c.as_str.result.now c.hold.result c.hold.ensures.hold).0 c.if-hold.true) in
    passing_added q b (string_bytes c.args.name) (texts c.args.passing.now.items) (texts c.push.new.self.items) holds grown

pub returns-else-hold-clause-added : goal.returns-else-hold-clause-added
returns-else-hold-clause-added c q b is =
    not_passing q b (string_bytes c.args.name) (texts c.args.passing.now.items) (λ h. true≢false (sym ((is c.as_str.result.now c.hold.result c.hold.ensures.hold).1 (subst (λ n. Pass q (record { binary = b; name = n })) (sym c.as_str.ensures.value) h)) ∙ c.if-hold.false))
