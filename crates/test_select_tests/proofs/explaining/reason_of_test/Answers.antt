use Rattle.std.proofs.Common.{◌≡◌, ◌∙◌, Contains, IfOk, IsTrue, ap, subst, sym}
use Rattle.list_facts.specs.Texts.{texts}
use Rattle.workspace_record.specs.Records.{Text}
use Rattle.nextest_filter_evaluation.specs.Meaning.{DefaultHolds}
use Rattle.nextest_binaries.specs.Queries as asked
use Rattle.nextest_binaries.specs.Queries.{binary_of}
use Rattle.test_select_tests.specs.QuestionFilters.{TextPasses, question_view}
use Rattle.test_select_checks.proofs.ContextFacts.{if_ok_so}
use Rattle.test_select_rules.specs.BinaryView.{binary_view}
use Rattle.test_select_tests.specs.CompiledReasons.{IsReasonOfListed, IsReasonOfTest}
use Rattle.test_select_rules.specs.Asked.{binary_asked, test_asked}
use Rattle.test_select_tests.proofs.FoundFacts.{is_among, not_among}
use Rattle.test_select_tests.proofs.ReasonFacts.{listed_so}
use Rattle.test_select_tests.proofs.explaining.reason_of_test.Goals as goal

pub returns-then-not-contains_text : goal.returns-then-not-contains_text
returns-then-not-contains_text c =
    not_among (texts c.args.names.now) c.args.name.now (sym c.contains_text.ensures ∙ c.if-not-contains_text.true)

pub returns : goal.returns
returns c =
    let q = question_view c.args.filters.now in
    let b = binary_view c.args.binary.now in
    let names = texts c.args.names.now in
    let name = c.args.name.now in
    let given = IsTrue c.args.are_given in
    let t = test_asked b name in
    let named : c.new-name.result ≡ name = c.new-name.ensures.name ∙ c.in_ok-from_str.ensures.ok in
    let is : record { binary = binary_of c.query.result; name = c.new-name.result } ≡ t = ap (λ (x : asked.Binary). record { binary = x; name = c.new-name.result }) c.query.ensures.asked ∙ ap (λ (n : Text). record { binary = binary_asked b; name = n }) named in
    let among : Contains names name = is_among names name (sym c.contains_text.ensures ∙ c.if-not-contains_text.false) in
    if_ok_so (IsReasonOfListed q given t) (IsReasonOfTest q given b names name) c.reason_of_listed.result (λ why h. listed_so (Contains names name) (DefaultHolds q.filters.default t) (TextPasses q t) q.texts given among why h) (subst (λ (x : asked.Test). IfOk c.reason_of_listed.result (λ why. IsReasonOfListed q given x why)) is c.reason_of_listed.ensures)
